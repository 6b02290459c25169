use Rattle.mm_logic_laws.proofs.MatrixLemmas.{independence_decided}
use Rattle.mm_logic_laws.proofs.independence_is_decided.Goals as goal

pub returns : goal.returns
returns c = independence_decided
