use Rattle.mm_minor.proofs.ContractionLemmas.{any_contracted}
use Rattle.mm_minor.proofs.laws.any_set_may_be_contracted.Goals as goal

pub returns : goal.returns
returns c = any_contracted
