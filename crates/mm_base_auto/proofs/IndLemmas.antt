-- The leaf rule and the join rule of `ind`, as the calls on keys compute them.
use Rattle.std.proofs.Common.{◌≡◌, ◌↔◌, ◌==◌, ℕ, Bool, true, false, List, [], ◌∷◌, ◌++◌, length, get_or, Option, Some, None, refl, sym, ap, ◌∙◌, if◌then◌else◌}
use Rattle.std.specs.List.{list_all}
use Rattle.std.proofs.lemmas.List.Elements.{All-nil, All-cons, All-map}
use Rattle.mm_field.specs.declared.Field.{Field}
use Rattle.mm_field.specs.Vectors.{times_matrix, AreDigits, IsVector, AreVectors, InSpan}
use Rattle.mm_field.proofs.CombinationLemmas.{IsVector-combination}
use Rattle.mm_linear.specs.Decide.{is_in_span, meets_in_zero}
use Rattle.mm_linear.specs.Sums.{MeetTrivially}
use Rattle.mm_linear.specs.ReducedEchelon.{reduced_basis}
use Rattle.mm_linear.specs.Subspaces.{preimage}
use Rattle.mm_linear.proofs.MeetTest.{is_in_span_decides, meets_in_zero_decides}
use Rattle.mm_linear.proofs.SubspaceTests.{subspace-of_rows}
use Rattle.mm_logic.specs.BoundarySpaces.{span_of, images, ind_join, ind_elem, ind_void}
use Rattle.mm_logic.specs.Operator.{IsValidOp, row_length}
use Rattle.mm_logic.specs.Value.{Value}
use Rattle.mm_logic.specs.Value.Value.{Dead, Span}
use Rattle.mm_ops.specs.OpValue.{OpValue, form_of}
use Rattle.mm_space.specs.JoinForms.{Joins}
use Rattle.mm_space.specs.KeyValue.{KeyValue, IsKeyOf}

-- the span of rows, as it is written
pub span_basis : (f : Field) (t : ℕ) (rows : List (List ℕ)) → AreVectors f t rows → reduced_basis f t rows ≡ span_of f t rows
span_basis f t rows h =
    sym (subspace-of_rows f t (λ b. is_in_span f t rows b) rows h (λ b hb. let d = is_in_span_decides f t rows b h hb in (d.1, d.0)))

-- what a join of keys answers
abbrev pub key_value : Option KeyValue → Value
key_value None = Dead
key_value (Some key) = Span key.t key.rows

images_are : (f : Field) (r : ℕ) (g rows : List (List ℕ)) → AreVectors f r g → AreVectors f r (images f r g rows)
images_are f r g rows h = All-map (λ v. IsVector f r v) (times_matrix f r g) rows (λ k d l. IsVector-combination f r (get_or rows k d) g h)

pub joined_value : (op : OpValue) (left right : KeyValue) (answer : Option KeyValue) → IsValidOp op.f op.op → Joins (form_of op) left right answer
    → key_value answer ≡ ind_join op.f op.op (Span left.t left.rows) (Span right.t right.rows)
joined_value op left right answer valid joins = by answer joins
  where
    f : Field
    f = op.f

    r : ℕ
    r = row_length op.op

    A : List (List ℕ)
    A = images f r op.op.g1 left.rows

    B : List (List ℕ)
    B = images f r op.op.g2 right.rows

    all : Value
    all = Span op.op.t3 (preimage f op.op.t3 r op.op.g3 (A ++ B))

    both : Bool
    both = meets_in_zero f r A B

    decides : (both ≡ true) ↔ MeetTrivially r (InSpan f r A) (InSpan f r B)
    decides = meets_in_zero_decides f r A B (images_are f r op.op.g1 left.rows valid.first.rows) (images_are f r op.op.g2 right.rows valid.second.rows)

    by : (answer : Option KeyValue) → Joins (form_of op) left right answer → key_value answer ≡ (if both then all else Dead)
    by None h = none both refl
      where
        none : (b : Bool) → both ≡ b → Dead ≡ (if both then all else Dead)
        none true e = absurd (h (decides.0 e))
        none false e = sym (ap (λ b. if b then all else Dead) e)
    by (Some key) h =
        let t = h.1.length ∙ valid.third.count in
        (λ i. Span (t i) (h.1.rows i))
        ∙ ap (λ n. Span op.op.t3 (preimage f n r op.op.g3 (A ++ B))) valid.third.count
        ∙ sym (ap (λ b. if b then all else Dead) (decides.1 h.0))

-- ---- the leaf rule

pub zero_is : (f : Field) (t : ℕ) (key : KeyValue) → IsKeyOf f t [] key → Span key.t key.rows ≡ ind_void f t
zero_is f t key k = (λ i. Span (k.length i) (k.basis i)) ∙ ap (Span t) (span_basis f t [] (All-nil (λ v. IsVector f t v)))

pub span_is : (f : Field) (vec : List ℕ) (key : KeyValue) → AreDigits f vec → IsKeyOf f (length vec) (vec ∷ []) key → list_all (λ d. d == 0) vec ≡ false
    → Span key.t key.rows ≡ ind_elem f vec true
span_is f vec key h k e =
    (λ i. Span (k.length i) (k.basis i))
    ∙ ap (Span (length vec)) (span_basis f (length vec) (vec ∷ []) (All-cons (λ v. IsVector f (length vec) v) vec [] (record { len = refl; digits = h }) (All-nil (λ v. IsVector f (length vec) v))))
    ∙ sym (ap (λ b. if b then Dead else Span (length vec) (span_of f (length vec) (vec ∷ []))) e)

pub zero_span : (f : Field) (vec : List ℕ) → list_all (λ d. d == 0) vec ≡ true → Dead ≡ ind_elem f vec true
zero_span f vec e = sym (ap (λ b. if b then Dead else Span (length vec) (span_of f (length vec) (vec ∷ []))) e)
