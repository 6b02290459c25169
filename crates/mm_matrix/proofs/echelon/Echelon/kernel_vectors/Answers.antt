use Rattle.std.proofs.Common.{ℕ, ◌≡◌, List, ◌++◌, map, sym, ap, ◌∙◌, subst, arith, refl}
use Rattle.mm_matrix.specs.MatrixValue.{MatrixValue}
use Rattle.mm_matrix.specs.Orthogonal.{IsNullOf}
use Rattle.mm_matrix.specs.Projections.{kernel_vectors, kernel_vector_at}
use Rattle.mm_matrix.proofs.RowLemmas.{digits_of}
use Rattle.mm_matrix.proofs.ShareLemmas.{rows_to, rows_to_more}
use Rattle.mm_matrix.proofs.FreeLemmas.{independent_kernel_vectors, orthogonal_is_null, null_is_orthogonal, count_kernel_vectors}
use Rattle.mm_matrix.proofs.echelon.Echelon.kernel_vectors.Goals as goal

pub loop-j-preserved : goal.loop-j-preserved
loop-j-preserved c =
    let f = c.self.inside.field in
    let n = c.self.inside.cols in
    let rows = map digits_of c.self.inside.rows.items in
    let ks = c.self.inside.leads.items in
    let j = c.loop-j.j in
    c.in_ok-add_kernel_vector.ensures
    ∙ ap (λ (m : MatrixValue). record { f = m.f; cols = m.cols; rows = m.rows ++ kernel_vector_at f m.cols rows ks j }) c.loop-j.invariant
    ∙ ap (λ (x : List (List ℕ)). record { f = f; cols = n; rows = x }) (sym (rows_to_more f n rows ks j))

pub returns : goal.returns
returns c =
    let f = c.self.inside.field in
    let n = c.self.inside.cols in
    let rows = map digits_of c.self.inside.rows.items in
    let ks = c.self.inside.leads.items in
    let h = c.self.invariant in
    let done : c.loop-j.j ≡ n = omega arith in
    let null : c.loop-j.null ≡ record { f = f; cols = n; rows = kernel_vectors f n rows ks } =
    c.loop-j.invariant ∙ ap (λ (j : ℕ). record { f = f; cols = n; rows = rows_to f n rows ks j }) done in
    subst (λ (m : MatrixValue). IsNullOf m c.loop-j.null) c.self.view_is
    (subst (λ (m : MatrixValue). IsNullOf (record { f = f; cols = n; rows = rows }) m) (sym null)
    (record {
      field = refl;
      cols = refl;
      independent = independent_kernel_vectors f n rows ks h;
      exactly = λ x hx. (null_is_orthogonal f n rows ks x h, orthogonal_is_null f n rows ks x h hx);
      count = count_kernel_vectors f n rows ks h;
    }))
