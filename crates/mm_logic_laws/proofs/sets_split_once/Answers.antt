use Rattle.mm_logic_laws.proofs.SplitLawLemmas.{sets-split_once}
use Rattle.mm_logic_laws.proofs.sets_split_once.Goals as goal

pub returns : goal.returns
returns c = sets-split_once
