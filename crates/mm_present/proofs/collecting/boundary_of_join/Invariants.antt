use Rattle.std.proofs.Common.{◌≡◌, ◌+◌, map}
use Rattle.std.specs.List.{range_with_len}
use Rattle.mm_present.specs.Joining.{join_row}
use Rattle.mm_present.proofs.collecting.boundary_of_join.Given as goal

abbrev pub invariant-loop-k : goal.invariant-loop-k
invariant-loop-k l = l.rows ≡ record { f = l.op.f; cols = l.left.rows.cols + l.right.rows.cols; rows = map (join_row l.left l.right) (range_with_len 0 l.k) }
