use Rattle.mm_nodes.specs.KeptTrees.{count}
use Rattle.mm_nodes.specs.KeptNodes.{tree_of}
use Rattle.mm_nodes.proofs.remake.+rows_beside.Given as goal

abbrev pub decreases-rows_beside : goal.decreases-rows_beside
decreases-rows_beside g l = count (tree_of l.kept.now)
