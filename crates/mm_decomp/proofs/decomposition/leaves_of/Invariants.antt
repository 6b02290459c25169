use Rattle.std.proofs.Common.{◌≡◌, take}
use Rattle.mm_decomp.specs.Shapes.{leaf_names}
use Rattle.mm_decomp.proofs.decomposition.leaves_of.Given as goal

abbrev pub invariant-loop-i : goal.invariant-loop-i
invariant-loop-i l = l.names ≡ leaf_names (take l.i l.steps)
