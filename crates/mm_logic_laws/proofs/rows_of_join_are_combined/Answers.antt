use Rattle.mm_logic_laws.proofs.JoinMatrixLemmas.{rows_combined}
use Rattle.mm_logic_laws.proofs.rows_of_join_are_combined.Goals as goal

pub returns : goal.returns
returns c = rows_combined
