use Rattle.mm_formula_text.proofs.CanonicalLemmas.{canonical_derives}
use Rattle.mm_formula_text.proofs.printer.canonical_text_derives.Goals as goal

pub returns : goal.returns
returns c = canonical_derives
