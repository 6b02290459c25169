use Rattle.mm_logic_laws.proofs.JoinMatrixLemmas.{columns_padded}
use Rattle.mm_logic_laws.proofs.columns_of_join_are_padded.Goals as goal

pub returns : goal.returns
returns c = columns_padded
