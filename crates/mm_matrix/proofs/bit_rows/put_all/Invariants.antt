use Rattle.std.proofs.Common.{take}
use Rattle.mm_field.specs.declared.Field.TheVariants.{Two}
use Rattle.mm_field.specs.Vectors.{SameRowSpace}
use Rattle.mm_matrix.specs.BitRows.{bit_rows, AreWide, AreStairs}
use Rattle.mm_matrix.proofs.bit_rows.put_all.Given as goal

abbrev pub invariant-loop-i : goal.invariant-loop-i
invariant-loop-i l = record {
  wide : AreWide l.m.cols l.rows.items;
  stairs : AreStairs l.m.cols (bit_rows l.m.cols l.rows.items) l.pivots.items;
  span : SameRowSpace Two l.m.cols (take l.i l.m.rows) (bit_rows l.m.cols l.rows.items);
}
