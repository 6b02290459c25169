use Rattle.std.proofs.Common.{◌≡◌, length, map, take}
use Rattle.mm_matrix.specs.Columns.{column}
use Rattle.mm_matrix.proofs.matrix.Matrix.columns.Given as goal

abbrev pub invariant-loop-k : goal.invariant-loop-k
invariant-loop-k l = l.columns ≡ record { f = l.self.f; cols = length l.self.rows; rows = map (column l.self.rows) (take l.k l.places) }
