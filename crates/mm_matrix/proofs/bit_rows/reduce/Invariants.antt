use Rattle.std.proofs.Common.{map, length}
use Rattle.mm_field.specs.declared.Field.TheVariants.{Two}
use Rattle.mm_matrix.specs.BitRows.{bits, bit_rows, IsWide}
use Rattle.mm_matrix.proofs.ResidueLemmas.{IsResidueUpTo}
use Rattle.mm_matrix.proofs.bit_rows.reduce.Given as goal

abbrev pub invariant-loop-i : goal.invariant-loop-i
invariant-loop-i l = record {
  wide : IsWide l.cols l.v;
  rest : IsResidueUpTo Two l.cols (bit_rows l.cols l.rows.items) l.pivots.items (bits l.cols l.initial.v) (bits l.cols l.v) l.i;
}
