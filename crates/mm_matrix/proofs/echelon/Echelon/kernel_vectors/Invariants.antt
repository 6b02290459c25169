use Rattle.std.proofs.Common.{◌≡◌, map}
use Rattle.mm_matrix.proofs.RowLemmas.{digits_of}
use Rattle.mm_matrix.proofs.ShareLemmas.{rows_to}
use Rattle.mm_matrix.proofs.echelon.Echelon.kernel_vectors.Given as goal

abbrev pub invariant-loop-j : goal.invariant-loop-j
invariant-loop-j l = l.null ≡ record {
  f = l.self-inside.field;
  cols = l.self-inside.cols;
  rows = rows_to l.self-inside.field l.self-inside.cols (map digits_of l.self-inside.rows.items) l.self-inside.leads.items l.j;
}
