use Rattle.std.proofs.Common.{take}
use Rattle.mm_field.specs.declared.Field.TheVariants.{Two}
use Rattle.mm_field.specs.Vectors.{IsWithin}
use Rattle.mm_matrix.proofs.bit_rows.first_outside_bits.Given as goal

abbrev pub invariant-loop-i : goal.invariant-loop-i
invariant-loop-i l = IsWithin Two l.m.cols (take l.i l.m.rows) l.others.rows
