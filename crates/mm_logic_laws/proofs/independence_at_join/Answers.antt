use Rattle.mm_logic_laws.proofs.SpaceLemmas.{independence_at_join}
use Rattle.mm_logic_laws.proofs.independence_at_join.Goals as goal

pub returns : goal.returns
returns c = independence_at_join
