use Rattle.mm_tree.specs.NamedTree.{nodes}
use Rattle.mm_tree.specs.Nodes.{named}
use Rattle.mm_present.proofs.dependencies.+pairs_of.Given as goal

abbrev pub decreases-pairs_of : goal.decreases-pairs_of
decreases-pairs_of l = nodes (named l.node.now)
