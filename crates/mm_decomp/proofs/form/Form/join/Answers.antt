use Rattle.std.proofs.Common.{ℕ, ◌+◌, ◌≡◌, ◌++◌, length, refl, ap, ap₂, sym, subst, ◌∙◌, length-append}
use Rattle.std.proofs.lemmas.List.{drop_at}
use Rattle.std.proofs.lemmas.List.Elements.{All-drop}
use Rattle.mm_field.specs.declared.Field.{Field}
use Rattle.mm_field.specs.Vectors.{IsVector, AreVectors}
use Rattle.mm_matrix.specs.MatrixValue.{MatrixValue}
use Rattle.mm_decomp.specs.Forms.{ReducesBeside}
use Rattle.mm_decomp.proofs.JoinFormLemmas.{join_form, same_count}
use Rattle.mm_decomp.proofs.form.Form.join.Goals as goal

pub reduce_beside-requires-2-clause-count : goal.reduce_beside-requires-2-clause-count
reduce_beside-requires-2-clause-count c =
    let ys = c.in_ok-functionals.functionals in
    let zs = c.in_ok-vectors.vectors in
    same_count ys.f ys.cols zs.cols ys.rows zs.rows c.in_ok-wide.wide.rows c.in_ok-wide.wide.sums c.in_ok-wide.ensures

pub returns : goal.returns
returns c =
    let left = c.args.left.now in
    let right = c.args.right.now in
    let f = left.basis.f in
    let k = left.functionals.cols in
    let g = left.basis.cols in
    let wide = c.in_ok-wide.wide in
    let narrow = c.in_ok-narrow.narrow in
    let ys = left.functionals.rows ++ right.functionals.rows in
    let zs = left.basis.rows ++ right.basis.rows in
    let first : ReducesBeside f k g ys zs wide.rows wide.sums =
    subst (λ (x : Field). ReducesBeside x k g ys zs wide.rows wide.sums) c.requires.left.field
    (subst (λ (x : MatrixValue). ReducesBeside left.functionals.f k x.cols ys x.rows wide.rows wide.sums) c.in_ok-vectors.ensures
    (subst (λ (x : MatrixValue). ReducesBeside x.f x.cols c.in_ok-vectors.vectors.cols x.rows c.in_ok-vectors.vectors.rows wide.rows wide.sums)
    c.in_ok-functionals.ensures c.in_ok-wide.ensures)) in
    let second : ReducesBeside f g k wide.sums.rows wide.rows.rows narrow.rows narrow.sums =
    subst (λ (n : ℕ). ReducesBeside f g n wide.sums.rows wide.rows.rows narrow.rows narrow.sums) (ap (λ (x : MatrixValue). x.cols) first.kept_is)
    (subst (λ (n : ℕ). ReducesBeside f n wide.rows.cols wide.sums.rows wide.rows.rows narrow.rows narrow.sums) (ap (λ (x : MatrixValue). x.cols) first.summed_is)
    (subst (λ (x : Field). ReducesBeside x wide.sums.cols wide.rows.cols wide.sums.rows wide.rows.rows narrow.rows narrow.sums)
    (ap (λ (x : MatrixValue). x.f) first.summed_is) c.in_ok-narrow.ensures)) in
    let count : length ys ≡ length zs =
    length-append left.functionals.rows right.functionals.rows ∙ ap₂ (λ a b. a + b) c.requires.left.count c.requires.right.count
    ∙ sym (length-append left.basis.rows right.basis.rows) in
    join_form f k g left right (record { functionals = narrow.sums; basis = narrow.rows }) c.requires.left.count
    (record { kept = wide.rows; summed = wide.sums; count = count; wide = first; narrow = second })
    (subst (λ vs. AreVectors f g vs) (drop_at left.basis.rows right.basis.rows (length left.basis.rows) refl)
    (All-drop (λ v. IsVector f g v) (length left.basis.rows) zs first.each_other))
