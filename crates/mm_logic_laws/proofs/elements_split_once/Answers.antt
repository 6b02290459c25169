use Rattle.mm_logic_laws.proofs.SplitLawLemmas.{elements-split_once}
use Rattle.mm_logic_laws.proofs.elements_split_once.Goals as goal

pub returns : goal.returns
returns c = elements-split_once
