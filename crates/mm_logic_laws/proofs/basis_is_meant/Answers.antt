use Rattle.mm_logic_laws.proofs.MatrixLemmas.{basis_meant}
use Rattle.mm_logic_laws.proofs.basis_is_meant.Goals as goal

pub returns : goal.returns
returns c = basis_meant
