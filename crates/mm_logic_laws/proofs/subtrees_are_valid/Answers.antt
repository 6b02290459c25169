use Rattle.mm_logic_laws.proofs.TreeLemmas.{subtrees_valid}
use Rattle.mm_logic_laws.proofs.subtrees_are_valid.Goals as goal

pub returns : goal.returns
returns c = subtrees_valid
