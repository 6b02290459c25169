use Rattle.std.proofs.Common.{ℕ, ◌≡◌, length, ap, ap₂, subst, ◌∙◌}
use Rattle.std.proofs.lemmas.Result.{IfOk-weaker}
use Rattle.mm_field.specs.declared.Field.{Field}
use Rattle.mm_field.specs.Vectors.{AreVectors}
use Rattle.mm_matrix.specs.MatrixValue.{MatrixValue, reduced}
use Rattle.mm_matrix.specs.Orthogonal.{IsNullOf}
use Rattle.mm_decomp.specs.Forms.{all_columns, IsBasisOfDependencies}
use Rattle.mm_decomp.proofs.FormLemmas.{dependencies_of_null}
use Rattle.mm_decomp.proofs.columns.dependencies.Goals as goal

of_null : (m space null basis : MatrixValue) → AreVectors m.f m.cols m.rows → space ≡ reduced (record { f = m.f; cols = length m.rows; rows = all_columns m.cols m.rows }) →
    IsNullOf space null → AreVectors null.f null.cols null.rows →
    basis ≡ record { f = null.f; cols = length null.rows; rows = all_columns null.cols null.rows } → IsBasisOfDependencies m basis
of_null m space null basis hm es n hn eb =
    let f = m.f in
    let N = length m.rows in
    let h : IsNullOf (reduced (record { f = f; cols = N; rows = all_columns m.cols m.rows })) null = subst (λ s. IsNullOf s null) es n in
    dependencies_of_null f m.cols m.rows null.rows basis hm
    (subst (λ (k : ℕ). AreVectors f k null.rows) h.cols (subst (λ (g : Field). AreVectors g null.cols null.rows) h.field hn))
    (λ x hx. h.exactly x hx)
    (eb ∙ ap₂ (λ (g : Field) (k : ℕ). record { f = g; cols = length null.rows; rows = all_columns k null.rows }) h.field h.cols)

pub returns : goal.returns
returns c =
    let m = c.args.columns.now in
    IfOk-weaker c.transposed-2.result _ (λ b. IsBasisOfDependencies m b)
    (λ b e. of_null m c.in_ok-space.space c.in_ok-null.null b c.rows.ensures.each (c.in_ok-space.ensures.rows ∙ ap reduced c.in_ok-given.ensures)
    c.in_ok-null.ensures c.rows-2.ensures.each e)
    c.transposed-2.ensures
