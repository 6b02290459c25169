use Rattle.mm_tree.specs.NamedTree.{nodes}
use Rattle.mm_tree.specs.Nodes.{named}
use Rattle.mm_present.proofs.collecting.+collect.Given as goal

abbrev pub decreases-collect : goal.decreases-collect
decreases-collect l = nodes (named l.node.now)
