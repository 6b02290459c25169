use Rattle.mm_logic_laws.proofs.LeastLemmas.{least-set_meant}
use Rattle.mm_logic_laws.proofs.least_set_is_meant.Goals as goal

pub returns : goal.returns
returns c = least-set_meant
