use Rattle.mm_decomp.proofs.ReadLemmas.{names_matched}
use Rattle.mm_decomp.proofs.decomposition.BuildText.compare_names.Goals as goal

pub returns-in-None : goal.returns-in-None
returns-in-None c =
    names_matched c.args.self.now c.in_ok-name.field-0 c.in_ok-name.ensures.first c.in-None.is c.requires.different c.in_ok-name.ensures.different
    c.requires.columns
