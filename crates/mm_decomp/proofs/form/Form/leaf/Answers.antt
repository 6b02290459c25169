use Rattle.std.proofs.Common.{[], ◌∷◌, length, subst}
use Rattle.mm_matrix.specs.MatrixValue.{MatrixValue}
use Rattle.mm_decomp.specs.Forms.{ReducesBeside}
use Rattle.mm_decomp.proofs.JoinFormLemmas.{leaf_form}
use Rattle.mm_decomp.proofs.form.Form.leaf.Goals as goal

pub returns : goal.returns
returns c =
    let f = c.args.f in
    let h = c.args.functional.now in
    let m = c.args.column.now in
    let narrow = c.in_ok-narrow.narrow in
    leaf_form f (length h) (length m) h m narrow.rows narrow.sums
    (subst (λ (x : MatrixValue). ReducesBeside f (length m) x.cols (m ∷ []) x.rows narrow.rows narrow.sums) c.in_ok-functionals.ensures
    (subst (λ (x : MatrixValue). ReducesBeside x.f x.cols c.in_ok-functionals.functionals.cols x.rows c.in_ok-functionals.functionals.rows narrow.rows narrow.sums)
    c.in_ok-columns.ensures c.in_ok-narrow.ensures))
