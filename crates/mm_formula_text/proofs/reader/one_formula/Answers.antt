use Rattle.mm_formula_text.proofs.TextLemmas.{one}
use Rattle.mm_formula_text.proofs.reader.one_formula.Goals as goal

pub returns : goal.returns
returns c = one
