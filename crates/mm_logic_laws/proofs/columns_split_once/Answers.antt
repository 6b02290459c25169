use Rattle.mm_logic_laws.proofs.MatrixLemmas.{one_column}
use Rattle.mm_logic_laws.proofs.columns_split_once.Goals as goal

pub returns : goal.returns
returns c = one_column
