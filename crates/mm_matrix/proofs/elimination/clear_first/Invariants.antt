use Rattle.std.proofs.Common.{◌≡◌, map, length}
use Rattle.mm_linear.specs.Eliminate.{cleared}
use Rattle.mm_matrix.proofs.RowLemmas.{digits_of, written_to}
use Rattle.mm_matrix.proofs.elimination.clear_first.Given as goal

abbrev pub invariant-loop-i : goal.invariant-loop-i
invariant-loop-i l = record {
  size : length l.rows.items ≡ length l.initial.rows.items;
  written : map digits_of l.rows.items ≡ written_to (cleared l.f l.lead l.w) (map digits_of l.initial.rows.items) l.i;
}
