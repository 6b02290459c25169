use Rattle.mm_tree.specs.NamedTree.{nodes}
use Rattle.mm_tree.specs.Nodes.{named}
use Rattle.mm_present.proofs.images.+count_internal.Given as goal

abbrev pub decreases-count_internal : goal.decreases-count_internal
decreases-count_internal l = nodes (named l.node.now)
