use Rattle.mm_tree.specs.NamedTree.{nodes}
use Rattle.mm_tree.specs.Nodes.{named}
use Rattle.mm_present.proofs.images.+images_of.Given as goal

abbrev pub decreases-images_of : goal.decreases-images_of
decreases-images_of l = nodes (named l.node.now)
