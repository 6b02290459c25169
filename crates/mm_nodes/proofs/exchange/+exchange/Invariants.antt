use Rattle.mm_nodes.specs.KeptTrees.{count}
use Rattle.mm_nodes.specs.KeptNodes.{tree_of}
use Rattle.mm_nodes.proofs.exchange.+exchange.Given as goal

abbrev pub decreases-exchange : goal.decreases-exchange
decreases-exchange g l = count (tree_of l.kept.now)
