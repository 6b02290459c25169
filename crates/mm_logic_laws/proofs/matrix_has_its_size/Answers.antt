use Rattle.mm_logic_laws.proofs.MatrixLemmas.{matrix_size}
use Rattle.mm_logic_laws.proofs.matrix_has_its_size.Goals as goal

pub returns : goal.returns
returns c = matrix_size
