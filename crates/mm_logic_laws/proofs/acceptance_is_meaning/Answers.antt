use Rattle.mm_logic_laws.proofs.AcceptLemmas.{acceptance-is_meaning}
use Rattle.mm_logic_laws.proofs.acceptance_is_meaning.Goals as goal

pub returns : goal.returns
returns c = acceptance-is_meaning
