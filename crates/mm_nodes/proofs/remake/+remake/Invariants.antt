use Rattle.mm_tree.specs.NamedTree.{nodes}
use Rattle.mm_tree.specs.Nodes.{named}
use Rattle.mm_nodes.proofs.remake.+remake.Given as goal

abbrev pub decreases-remake : goal.decreases-remake
decreases-remake g l = nodes (named l.node.now)
