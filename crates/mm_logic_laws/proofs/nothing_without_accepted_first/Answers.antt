use Rattle.mm_logic_laws.proofs.LeastLemmas.{nothing_without}
use Rattle.mm_logic_laws.proofs.nothing_without_accepted_first.Goals as goal

pub returns : goal.returns
returns c = nothing_without
