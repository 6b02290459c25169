use Rattle.std.proofs.Common.{◌≡◌, take}
use Rattle.mm_linear.specs.ReducedEchelon.{reduced_basis}
use Rattle.mm_matrix.proofs.echelon.Echelon.of.Given as goal

abbrev pub invariant-loop-i : goal.invariant-loop-i
invariant-loop-i l = l.kept ≡ record { f = l.m.f; cols = l.m.cols; rows = reduced_basis l.m.f l.m.cols (take l.i l.m.rows) }
