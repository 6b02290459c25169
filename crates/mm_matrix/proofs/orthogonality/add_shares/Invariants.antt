use Rattle.std.proofs.Common.{◌≡◌, map, length}
use Rattle.mm_field.specs.Vectors.{IsVector, vector_sum}
use Rattle.mm_matrix.specs.Projections.{left}
use Rattle.mm_matrix.proofs.RowLemmas.{digits_of}
use Rattle.mm_matrix.proofs.orthogonality.add_shares.Given as goal

abbrev pub invariant-loop-i : goal.invariant-loop-i
invariant-loop-i l = record {
  vector : IsVector l.f (length l.initial.row) l.row;
  rest :
      vector_sum l.f l.row (left l.f (length l.initial.row) (map digits_of l.rows.items) l.leads.items l.j l.i)
      ≡ vector_sum l.f l.initial.row (left l.f (length l.initial.row) (map digits_of l.rows.items) l.leads.items l.j 0);
}
