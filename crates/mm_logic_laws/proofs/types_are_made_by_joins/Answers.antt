use Rattle.mm_logic_laws.proofs.TypeLemmas.{joined-is_type}
use Rattle.mm_logic_laws.proofs.types_are_made_by_joins.Goals as goal

pub returns : goal.returns
returns c f T ok = joined-is_type f T ok
