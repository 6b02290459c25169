use Rattle.mm_logic_laws.proofs.LeastLemmas.{least-restricts}
use Rattle.mm_logic_laws.proofs.least_sets_restrict.Goals as goal

pub returns : goal.returns
returns c = least-restricts
