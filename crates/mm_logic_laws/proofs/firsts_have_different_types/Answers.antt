use Rattle.mm_logic_laws.proofs.LeastLemmas.{different_types}
use Rattle.mm_logic_laws.proofs.firsts_have_different_types.Goals as goal

pub returns : goal.returns
returns c = different_types
