use Rattle.mm_logic_laws.proofs.RowCountLemmas.{as_many_as_types}
use Rattle.mm_logic_laws.proofs.firsts_are_as_many_as_types.Goals as goal

pub returns : goal.returns
returns c = as_many_as_types
