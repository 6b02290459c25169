use Rattle.mm_tree.specs.NamedTree.{nodes}
use Rattle.mm_tree.specs.Nodes.{named}
use Rattle.mm_nodes.proofs.change.+part_at.Given as goal

abbrev pub decreases-part_at : goal.decreases-part_at
decreases-part_at g l = nodes (named l.node.now)
