use Rattle.std.proofs.Common.{◌≡◌, filter, not}
use Rattle.std.specs.List.{range_with_len}
use Rattle.mm_linear.specs.Coordinates.{is_pivot}
use Rattle.mm_present.proofs.coordinates.free_columns.Given as goal

abbrev pub invariant-loop-k : goal.invariant-loop-k
invariant-loop-k l = l.free.items ≡ filter (λ j. not (is_pivot l.op.f l.op.op.g3 j)) (range_with_len 0 l.k)
