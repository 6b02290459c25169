use Rattle.mm_logic_laws.proofs.TreeLemmas.{subtrees_in_order}
use Rattle.mm_logic_laws.proofs.subtrees_are_in_order.Goals as goal

pub returns : goal.returns
returns c = subtrees_in_order
