use Rattle.mm_logic_laws.proofs.SplitLawLemmas.{singles-split_once}
use Rattle.mm_logic_laws.proofs.singles_split_once.Goals as goal

pub returns : goal.returns
returns c = singles-split_once
