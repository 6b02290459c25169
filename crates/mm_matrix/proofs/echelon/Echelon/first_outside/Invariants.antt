use Rattle.std.proofs.Common.{take}
use Rattle.mm_field.specs.Vectors.{IsWithin}
use Rattle.mm_matrix.proofs.echelon.Echelon.first_outside.Given as goal

abbrev pub invariant-loop-i : goal.invariant-loop-i
invariant-loop-i l = IsWithin l.self.f l.self.cols (take l.i l.m.rows) l.self.rows
