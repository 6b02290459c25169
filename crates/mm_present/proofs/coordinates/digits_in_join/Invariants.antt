use Rattle.std.proofs.Common.{◌≡◌, map, take}
use Rattle.mm_logic.specs.Operator.{row_length}
use Rattle.mm_logic.specs.PresentMatrix.{column_digits}
use Rattle.mm_present.proofs.coordinates.digits_in_join.Given as goal

abbrev pub invariant-loop-k : goal.invariant-loop-k
invariant-loop-k l = l.rows ≡ record { f = l.op.f; cols = row_length l.op.op; rows = map (column_digits l.op.f l.op.op) (take l.k l.g) }
