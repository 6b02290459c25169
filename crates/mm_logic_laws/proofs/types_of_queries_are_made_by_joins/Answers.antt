use Rattle.mm_logic_laws.proofs.SizeLawLemmas.{types_of_queries}
use Rattle.mm_logic_laws.proofs.types_of_queries_are_made_by_joins.Goals as goal

pub returns : goal.returns
returns c = types_of_queries
