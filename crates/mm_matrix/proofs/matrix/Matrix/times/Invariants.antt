use Rattle.std.proofs.Common.{◌≡◌, map, take}
use Rattle.mm_field.specs.Vectors.{times_matrix}
use Rattle.mm_matrix.proofs.matrix.Matrix.times.Given as goal

abbrev pub invariant-loop-i : goal.invariant-loop-i
invariant-loop-i l = l.product ≡ record {
  f = l.self.f;
  cols = l.other.cols;
  rows = map (times_matrix l.self.f l.other.cols l.other.rows) (take l.i l.self.rows);
}
