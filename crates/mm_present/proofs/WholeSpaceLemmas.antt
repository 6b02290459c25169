-- The leaf rule and the join rule of `ind`, as the calls on keys compute them; and those of all elements of a tree.
use Rattle.std.proofs.Common.{◌≡◌, ◌↔◌, ◌==◌, ℕ, Bool, true, false, List, [], ◌∷◌, ◌++◌, length, get_or, Option, Some, None, refl, sym, ap, ◌∙◌, if◌then◌else◌}
use Rattle.std.specs.List.{list_all}
use Rattle.std.proofs.lemmas.List.Elements.{All-nil, All-cons, All-map}
use Rattle.mm_field.specs.declared.Field.{Field}
use Rattle.mm_field.specs.Vectors.{times_matrix, AreDigits, IsVector, AreVectors, InSpan}
use Rattle.mm_field.proofs.CombinationLemmas.{IsVector-combination}
use Rattle.mm_linear.specs.Decide.{is_in_span, meets_in_zero}
use Rattle.mm_linear.specs.Sums.{MeetTrivially}
use Rattle.mm_linear.specs.ReducedEchelon.{reduced_basis}
use Rattle.mm_linear.specs.Subspaces.{preimage}
use Rattle.mm_linear.proofs.MeetTest.{is_in_span_decides, meets_in_zero_decides}
use Rattle.mm_linear.proofs.SubspaceTests.{subspace-of_rows}
use Rattle.mm_logic.specs.BoundarySpaces.{span_of, images, ind_join, ind_elem, ind_void}
use Rattle.mm_logic.specs.Operator.{IsValidOp, row_length}
use Rattle.mm_logic.specs.Value.{Value}
use Rattle.mm_logic.specs.Value.Value.{Dead, Span}
use Rattle.mm_ops.specs.OpValue.{OpValue, form_of}
use Rattle.mm_space.specs.JoinForms.{Joins}
use Rattle.mm_space.specs.KeyValue.{KeyValue, IsKeyOf}
use Rattle.std.specs.Prelude.{IfSome}
use Rattle.std.proofs.Common.{replicate, is_some, ap₂, subst, ◌+◌}
use Rattle.std.proofs.lemmas.List.{length-replicate, replicate-append-replicate}
use Rattle.mm_logic.specs.AtomValues.{is_alive}
use Rattle.mm_logic.specs.BoundarySpaces.{ind_type}
use Rattle.mm_logic.specs.PresentMatrix.{is_independent_set}
use Rattle.mm_logic.specs.Tree.{Tree, size, IsValid}
use Rattle.mm_logic.specs.Tree.Tree.{Elem, Void, Join}
use Rattle.mm_logic_laws.proofs.MatrixLemmas.{alive, ind_at_elem, ind_at_join, ind_at_void}
use Rattle.mm_present.specs.WholeSpaces.{IsWholeSpace, value_of_space}
use Rattle.mm_present.proofs.NodeLemmas.{op_over}

-- the span of rows, as it is written
pub span_basis : (f : Field) (t : ℕ) (rows : List (List ℕ)) → AreVectors f t rows → reduced_basis f t rows ≡ span_of f t rows
span_basis f t rows h =
    sym (subspace-of_rows f t (λ b. is_in_span f t rows b) rows h (λ b hb. let d = is_in_span_decides f t rows b h hb in (d.1, d.0)))

images_are : (f : Field) (r : ℕ) (g rows : List (List ℕ)) → AreVectors f r g → AreVectors f r (images f r g rows)
images_are f r g rows h = All-map (λ v. IsVector f r v) (times_matrix f r g) rows (λ k d l. IsVector-combination f r (get_or rows k d) g h)

pub joined_value : (op : OpValue) (left right : KeyValue) (answer : Option KeyValue) → IsValidOp op.f op.op → Joins (form_of op) left right answer
    → value_of_space answer ≡ ind_join op.f op.op (Span left.t left.rows) (Span right.t right.rows)
joined_value op left right answer valid joins = by answer joins
  where
    f : Field
    f = op.f

    r : ℕ
    r = row_length op.op

    A : List (List ℕ)
    A = images f r op.op.g1 left.rows

    B : List (List ℕ)
    B = images f r op.op.g2 right.rows

    all : Value
    all = Span op.op.t3 (preimage f op.op.t3 r op.op.g3 (A ++ B))

    both : Bool
    both = meets_in_zero f r A B

    decides : (both ≡ true) ↔ MeetTrivially r (InSpan f r A) (InSpan f r B)
    decides = meets_in_zero_decides f r A B (images_are f r op.op.g1 left.rows valid.first.rows) (images_are f r op.op.g2 right.rows valid.second.rows)

    by : (answer : Option KeyValue) → Joins (form_of op) left right answer → value_of_space answer ≡ (if both then all else Dead)
    by None h = none both refl
      where
        none : (b : Bool) → both ≡ b → Dead ≡ (if both then all else Dead)
        none true e = absurd (h (decides.0 e))
        none false e = sym (ap (λ b. if b then all else Dead) e)
    by (Some key) h =
        let t = h.1.length ∙ valid.third.count in
        (λ i. Span (t i) (h.1.rows i))
        ∙ ap (λ n. Span op.op.t3 (preimage f n r op.op.g3 (A ++ B))) valid.third.count
        ∙ sym (ap (λ b. if b then all else Dead) (decides.1 h.0))

-- ---- the leaf rule

pub zero_is : (f : Field) (t : ℕ) (key : KeyValue) → IsKeyOf f t [] key → Span key.t key.rows ≡ ind_void f t
zero_is f t key k = (λ i. Span (k.length i) (k.basis i)) ∙ ap (Span t) (span_basis f t [] (All-nil (λ v. IsVector f t v)))

pub span_is : (f : Field) (vec : List ℕ) (key : KeyValue) → AreDigits f vec → IsKeyOf f (length vec) (vec ∷ []) key → list_all (λ d. d == 0) vec ≡ false
    → Span key.t key.rows ≡ ind_elem f vec true
span_is f vec key h k e =
    (λ i. Span (k.length i) (k.basis i))
    ∙ ap (Span (length vec)) (span_basis f (length vec) (vec ∷ []) (All-cons (λ v. IsVector f (length vec) v) vec [] (record { len = refl; digits = h }) (All-nil (λ v. IsVector f (length vec) v))))
    ∙ sym (ap (λ b. if b then Dead else Span (length vec) (span_of f (length vec) (vec ∷ []))) e)

pub zero_span : (f : Field) (vec : List ℕ) → list_all (λ d. d == 0) vec ≡ true → Dead ≡ ind_elem f vec true
zero_span f vec e = sym (ap (λ b. if b then Dead else Span (length vec) (span_of f (length vec) (vec ∷ []))) e)

-- ---- all elements of a tree

pub void_space : (f : Field) (T : Tree) (t : ℕ) (key : KeyValue) → T ≡ Void t → IsKeyOf f t [] key → IsWholeSpace f T (Some key)
void_space f T t key e k = subst (λ (S : Tree). IsWholeSpace f S (Some key)) (sym e) (record {
  value = zero_is f t key k ∙ sym (ind_at_void f t);
  over = (k.field, k.length);
})

pub element_space : (f : Field) (T : Tree) (vec : List ℕ) (key : KeyValue) → T ≡ Elem vec → IsValid f (Elem vec) → IsKeyOf f (length vec) (vec ∷ []) key →
    list_all (λ d. d == 0) vec ≡ false → IsWholeSpace f T (Some key)
element_space f T vec key e ok k z = subst (λ (S : Tree). IsWholeSpace f S (Some key)) (sym e) (record {
  value = span_is f vec key ok.0 k z ∙ sym (ind_at_elem f vec true ok);
  over = (k.field, k.length);
})

pub element_dead : (f : Field) (T : Tree) (vec : List ℕ) → T ≡ Elem vec → IsValid f (Elem vec) → list_all (λ d. d == 0) vec ≡ true → IsWholeSpace f T None
element_dead f T vec e ok z = subst (λ (S : Tree). IsWholeSpace f S None) (sym e) (record {
  value = zero_span f vec z ∙ sym (ind_at_elem f vec true ok);
  over = tt;
})

all_at_join : (f : Field) (op : OpValue) (L R : Tree) → IsValid f (Join op.op L R) →
    ind_type f (Join op.op L R) (replicate (size L + size R) true)
    ≡ ind_join f op.op (ind_type f L (replicate (size L) true)) (ind_type f R (replicate (size R) true))
all_at_join f op L R ok =
    ap (ind_type f (Join op.op L R)) (sym (replicate-append-replicate (size L) (size R) true))
    ∙ ind_at_join f op.op L R (replicate (size L) true) (replicate (size R) true) ok (length-replicate (size L) true) (length-replicate (size R) true)

dead_right : (f : Field) (op : OpValue) (v : Value) → Dead ≡ ind_join f op.op v Dead
dead_right f op Dead = refl
dead_right f op (Span t rows) = refl
dead_right f op v = refl

pub left_dead : (f : Field) (op : OpValue) (T L R : Tree) → T ≡ Join op.op L R → IsValid f (Join op.op L R) → IsWholeSpace f L None → IsWholeSpace f T None
left_dead f op T L R e ok p = subst (λ (S : Tree). IsWholeSpace f S None) (sym e) (record {
  value = ap (λ v. ind_join f op.op v (ind_type f R (replicate (size R) true))) p.value ∙ sym (all_at_join f op L R ok);
  over = tt;
})

pub right_dead : (f : Field) (op : OpValue) (T L R : Tree) → T ≡ Join op.op L R → IsValid f (Join op.op L R) → IsWholeSpace f R None → IsWholeSpace f T None
right_dead f op T L R e ok p = subst (λ (S : Tree). IsWholeSpace f S None) (sym e) (record {
  value = dead_right f op (ind_type f L (replicate (size L) true))
      ∙ ap (ind_join f op.op (ind_type f L (replicate (size L) true))) p.value ∙ sym (all_at_join f op L R ok);
  over = tt;
})

joined_over : (op : OpValue) (left right : KeyValue) (answer : Option KeyValue) → IsValidOp op.f op.op → Joins (form_of op) left right answer →
    IfSome answer (λ key. (key.f ≡ op.f) × (key.t ≡ op.op.t3))
joined_over op left right None ok h = tt
joined_over op left right (Some key) ok h = (h.1.field, h.1.length ∙ ok.third.count)

pub join_space : (f : Field) (op : OpValue) (T L R : Tree) (left right : KeyValue) (answer : Option KeyValue) → op.f ≡ f → T ≡ Join op.op L R →
    IsValid f (Join op.op L R) → IsWholeSpace f L (Some left) → IsWholeSpace f R (Some right) → Joins (form_of op) left right answer → IsWholeSpace f T answer
join_space f op T L R left right answer ef e ok p q joins =
    let o : OpValue = record { f = f; op = op.op } in
    let j : Joins (form_of o) left right answer = subst (λ (x : OpValue). Joins (form_of x) left right answer) (op_over f op ef) joins in
    subst (λ (S : Tree). IsWholeSpace f S answer) (sym e) (record {
      value = joined_value o left right answer ok.0 j ∙ ap₂ (ind_join f op.op) p.value q.value ∙ sym (all_at_join f op L R ok);
      over = joined_over o left right answer ok.0 j;
    })

pub alive_space : (f : Field) (T : Tree) (space : Option KeyValue) → IsWholeSpace f T space → is_some space ≡ is_independent_set f T (replicate (size T) true)
alive_space f T space h = go space ∙ ap is_alive h.value ∙ alive f T (replicate (size T) true)
  where
    go : (o : Option KeyValue) → is_some o ≡ is_alive (value_of_space o)
    go None = refl
    go (Some key) = refl
