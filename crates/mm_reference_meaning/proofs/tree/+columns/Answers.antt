use Rattle.std.proofs.Common.{◌≡◌, ◌+◌, sym, ap, ◌∙◌, subst}
use Rattle.mm_field.specs.Vectors.{AreVectors}
use Rattle.mm_logic.specs.Tree.{IsValid}
use Rattle.mm_logic.specs.PresentMatrix.{internal, columns}
use Rattle.mm_logic_laws.proofs.MatrixLemmas.{columns_are}
use Rattle.mm_reference_meaning.specs.Rows.{rows_of}
use Rattle.mm_reference_meaning.specs.Trees.{tree_of}
use Rattle.mm_reference_meaning.proofs.tree.+columns.Goals as goal

pub join_columns-requires-clause-left : goal.join_columns-requires-clause-left
join_columns-requires-clause-left t c =
    let f = c.args.f in
    let valid = subst (λ T. IsValid f (tree_of T)) c.in-Join.is c.requires.valid in
    let T = tree_of c.in-Join.left.value in
    let h = columns_are f T valid.3 in
    let e : rows_of c.deref-in-Join-3.result.now ≡ columns f T =
    ap rows_of c.deref-in-Join-3.ensures.value ∙ c.in_ok-left_columns-in-Join.ensures ∙ ap (λ S. columns f (tree_of S)) c.deref-in-Join.ensures in
    let m : c.internal.result ≡ internal T = c.internal.ensures ∙ ap (λ S. internal (tree_of S)) c.deref-in-Join-5.ensures in
    subst (λ xs. AreVectors f (c.in-Join.op.t1 + c.internal.result) xs) (sym e)
    (subst (λ k. AreVectors f (c.in-Join.op.t1 + k) (columns f T)) (sym m) (subst (λ b. AreVectors f (b + internal T) (columns f T)) valid.1 h))

pub join_columns-requires-clause-right : goal.join_columns-requires-clause-right
join_columns-requires-clause-right t c =
    let f = c.args.f in
    let valid = subst (λ T. IsValid f (tree_of T)) c.in-Join.is c.requires.valid in
    let T = tree_of c.in-Join.right.value in
    let h = columns_are f T valid.4 in
    let e : rows_of c.deref-in-Join-4.result.now ≡ columns f T =
    ap rows_of c.deref-in-Join-4.ensures.value ∙ c.in_ok-right_columns-in-Join.ensures ∙ ap (λ S. columns f (tree_of S)) c.deref-in-Join-2.ensures in
    let m : c.internal-in-Join.result ≡ internal T = c.internal-in-Join.ensures ∙ ap (λ S. internal (tree_of S)) c.deref-in-Join-6.ensures in
    subst (λ xs. AreVectors f (c.in-Join.op.t2 + c.internal-in-Join.result) xs) (sym e)
    (subst (λ k. AreVectors f (c.in-Join.op.t2 + k) (columns f T)) (sym m) (subst (λ b. AreVectors f (b + internal T) (columns f T)) valid.2 h))
