use Rattle.std.proofs.Common.{◌≡◌, ◌++◌, take}
use Rattle.mm_matrix.proofs.matrix.Matrix.stacked.Given as goal

abbrev pub invariant-loop-i : goal.invariant-loop-i
invariant-loop-i l = l.self ≡ record { f = l.fn.self.f; cols = l.fn.self.cols; rows = l.fn.self.rows ++ take l.i l.other.rows }
