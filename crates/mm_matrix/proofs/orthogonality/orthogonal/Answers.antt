use Rattle.std.proofs.Common.{sym, ◌∙◌, subst, refl}
use Rattle.mm_linear.specs.ReducedEchelon.{reduced_basis}
use Rattle.mm_linear.proofs.ReducedEchelonLemmas.{reduced_basis_is}
use Rattle.mm_matrix.specs.MatrixValue.{MatrixValue}
use Rattle.mm_matrix.specs.Orthogonal.{IsNullOf, IsOrthogonalBasis}
use Rattle.mm_matrix.proofs.FreeLemmas.{basis_of_null}
use Rattle.mm_matrix.proofs.orthogonality.orthogonal.Goals as goal

pub returns : goal.returns
returns c =
    let m = c.args.m.now in
    let null = c.in_ok-null.null in
    let rows = reduced_basis m.f m.cols m.rows in
    let each = c.in_ok-space.ensures.span.is_matrix in
    let basis = reduced_basis null.f null.cols null.rows in
    let is_null : IsNullOf (record { f = m.f; cols = m.cols; rows = rows }) null =
    subst (λ (s : MatrixValue). IsNullOf s null) c.in_ok-space.ensures.rows c.in_ok-null.ensures in
    let left_basis = reduced_basis_is m.f m.cols m.rows each in
    subst (λ (b : MatrixValue). IsOrthogonalBasis m b) (sym (c.into_matrix.ensures ∙ c.in_ok-basis.ensures.rows))
    (basis_of_null m null rows basis c.in_ok-basis.ensures.span.is_matrix left_basis.each each refl left_basis.span is_null refl)
