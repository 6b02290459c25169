use Rattle.std.proofs.Common.{◌≡◌, ◌≤◌, length, drop}
use Rattle.mm_field.specs.Vectors.{combination}
use Rattle.mm_logic.specs.PresentMatrix.{row_of}
use Rattle.mm_present.proofs.join_rows.add_side.Given as goal

abbrev pub invariant-loop-i : goal.invariant-loop-i
invariant-loop-i l = record {
  low : l.i ≤ length l.side.rows.rows;
  out_is : l.out ≡ combination l.side.rows.f l.side.rows.cols (drop l.i (row_of l.side.digits.now.rows l.k)) (drop l.i l.side.rows.rows);
}
