use Rattle.mm_logic_laws.proofs.MatrixLemmas.{boundary_meant}
use Rattle.mm_logic_laws.proofs.boundary_space_is_meant.Goals as goal

pub returns : goal.returns
returns c = boundary_meant
