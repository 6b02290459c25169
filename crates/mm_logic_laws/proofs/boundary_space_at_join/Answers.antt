use Rattle.mm_logic_laws.proofs.SpaceLemmas.{space_at_join}
use Rattle.mm_logic_laws.proofs.boundary_space_at_join.Goals as goal

pub returns : goal.returns
returns c = space_at_join
