use Rattle.mm_tree.specs.NamedTree.{nodes}
use Rattle.mm_tree.specs.Nodes.{named}
use Rattle.mm_present.proofs.independence.+space_of.Given as goal

abbrev pub decreases-space_of : goal.decreases-space_of
decreases-space_of l = nodes (named l.node.now)
