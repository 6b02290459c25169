use Rattle.mm_tree.specs.NamedTree.{nodes}
use Rattle.mm_tree.specs.Nodes.{named}
use Rattle.mm_nodes.proofs.build.+build_with.Given as goal

abbrev pub decreases-build_with : goal.decreases-build_with
decreases-build_with g l = nodes (named l.node.now)
