use Rattle.std.proofs.Common.{◌≡◌, map}
use Rattle.std.specs.List.{range_with_len}
use Rattle.mm_linear.specs.Coordinates.{unit}
use Rattle.mm_space.proofs.space.first_units.Given as goal

abbrev pub invariant-loop-k : goal.invariant-loop-k
invariant-loop-k l = l.rows ≡ map (unit l.r) (range_with_len 0 l.k)
