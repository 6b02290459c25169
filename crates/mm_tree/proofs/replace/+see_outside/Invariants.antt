use Rattle.mm_tree.specs.NamedTree.{nodes}
use Rattle.mm_tree.specs.Nodes.{named}
use Rattle.mm_tree.proofs.replace.+see_outside.Given as goal

abbrev pub decreases-see_outside : goal.decreases-see_outside
decreases-see_outside l = nodes (named l.node.now)
