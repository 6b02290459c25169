use Rattle.std.proofs.Common.{[], take}
use Rattle.mm_decomp.specs.Shapes.{after_steps}
use Rattle.mm_decomp.specs.Steps.{IsBuilding, leaf_columns_of}
use Rattle.mm_decomp.proofs.build.build_from.Given as goal

abbrev pub invariant-loop-i : goal.invariant-loop-i
invariant-loop-i l = IsBuilding (leaf_columns_of l.functionals l.columns) (after_steps [] (take l.i l.steps)) l.building
