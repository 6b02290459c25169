use Rattle.mm_logic_laws.proofs.MatrixLemmas.{preimage_meant}
use Rattle.mm_logic_laws.proofs.preimage_is_meant.Goals as goal

pub returns : goal.returns
returns c = preimage_meant
