-- Spans and independence, by trying all digits as the first coefficient.
use Rattle.std.proofs.Common.{◌≡◌, ◌<◌, ℕ, Bool, true, false, not, ◌&&◌, ◌==◌, Option, Some, None, List, [], ◌∷◌, length, refl, sym, ap, ◌∙◌, subst, arith, get_or, take, drop, ◌-◌, ◌≤◌}
use Rattle.std.specs.Prelude.{is_some, is_none}
use Rattle.std.specs.List.{list_all}
use Rattle.std.specs.declared.vec.Vec.{Vec}
use Rattle.std.proofs.lemmas.List.{take_all}
use Rattle.mm_reference_meaning.specs.Rows.{rows_of}
use Rattle.mm_field.specs.declared.Field.{Field}
use Rattle.mm_field.specs.Digits.{order}
use Rattle.mm_field.specs.Vectors.{vector_sum, multiple, IsVector, AreVectors, InSpan}
use Rattle.mm_field.proofs.VectorLemmas.{vector_sum_comm}
use Rattle.mm_field.proofs.CombinationLemmas.{first_row, other_rows, combination-none, InSpan-zeros}
use Rattle.std.proofs.lemmas.List.Elements.{All-nil}
use Rattle.std.proofs.lemmas.Bool.{false_from_ne_true}
use Rattle.mm_linear.specs.Coordinates.{minus_multiple}
use Rattle.mm_linear.specs.Decide.{is_in_span, is_independent, new_place, echelon_of}
use Rattle.mm_linear.proofs.MeetTest.{is_in_span_decides}
use Rattle.mm_linear.proofs.SubspaceLemmas.{split_first}
use Rattle.mm_linear.proofs.BasisLemmas.{IsVector-cons, minus_and_plus}
use Rattle.mm_linear.proofs.CoordinateLemmas.{IsVector-minus_multiple, rest_is_minus_multiple}
use Rattle.mm_linear.proofs.SpaceLemmas.{false_true}
use Rattle.mm_logic_laws.proofs.MatrixLemmas.{all_zero, zeros_all}

-- the span of no rows is the zero vector
pub in_none : (f : Field) (v : List ℕ) → IsVector f (length v) v → list_all (λ d. d == 0) v ≡ is_in_span f (length v) [] v
in_none f v h = by (list_all (λ d. d == 0) v) refl (is_in_span f (length v) [] v) refl
  where
    n : ℕ
    n = length v

    decides : (is_in_span f n [] v ≡ true → InSpan f n [] v) × (InSpan f n [] v → is_in_span f n [] v ≡ true)
    decides = let d = is_in_span_decides f n [] v (All-nil (λ u. IsVector f n u)) h in (d.0, d.1)

    by : (a : Bool) → list_all (λ d. d == 0) v ≡ a → (b : Bool) → is_in_span f n [] v ≡ b → a ≡ b
    by true e true k = refl
    by false e false k = refl
    by true e false k =
        false_true _ (sym k ∙ decides.1 (subst (λ u. InSpan f n [] u) (sym (all_zero v e)) (InSpan-zeros f n [] (All-nil (λ u. IsVector f n u)))))
    by false e true k =
        let p = decides.0 k in
        false_true _ (sym e ∙ ap (list_all (λ d. d == 0)) (sym p.sum ∙ combination-none f n p.coefficients) ∙ zeros_all n)

-- what is left after a multiple of the first row is taken away
pub found_here : (f : Field) (n c : ℕ) (v x : List ℕ) (rows : List (List ℕ)) → AreVectors f n (v ∷ rows) → IsVector f n x → c < order f →
    is_in_span f n rows (minus_multiple f x c v) ≡ true → is_in_span f n (v ∷ rows) x ≡ true
found_here f n c v x rows h hx lc e =
    let hv = first_row f n v rows h in
    let hs = other_rows f n v rows h in
    let p = (is_in_span_decides f n rows (minus_multiple f x c v) hs (IsVector-minus_multiple f n c x v hx.len hv.len)).0 e in
    (is_in_span_decides f n (v ∷ rows) x h hx).1
    (record {
      coefficients = c ∷ p.coefficients;
      each = IsVector-cons f (length rows) c p.coefficients lc p.each;
      sum =
          ap (λ u. vector_sum f (multiple f c v) u) p.sum
          ∙ vector_sum_comm f (multiple f c v) (minus_multiple f x c v)
          ∙ minus_and_plus f n c x v hx hv.len;
    })

pub found_nowhere : (f : Field) (n : ℕ) (v x : List ℕ) (rows : List (List ℕ)) → AreVectors f n (v ∷ rows) → IsVector f n x →
    ((c : ℕ) → c < order f → is_in_span f n rows (minus_multiple f x c v) ≡ false) → is_in_span f n (v ∷ rows) x ≡ false
found_nowhere f n v x rows h hx none = false_from_ne_true (is_in_span f n (v ∷ rows) x) (λ e.
    let hv = first_row f n v rows h in
    let hs = other_rows f n v rows h in
    let s = split_first f n v rows x ((is_in_span_decides f n (v ∷ rows) x h hx).0 e) in
    let t = (is_in_span_decides f n rows (minus_multiple f x s.factor v) hs (IsVector-minus_multiple f n s.factor x v hx.len hv.len)).1 (rest_is_minus_multiple f n v x rows hs hv s) in
    false_true _ (sym (none s.factor s.digit) ∙ t))

-- a row is new exactly where it is in no span of the others
pub independent_first : (f : Field) (n : ℕ) (v : List ℕ) (rows : List (List ℕ)) →
    (is_independent f n rows && not (is_in_span f n rows v)) ≡ is_independent f n (v ∷ rows)
unfolding is_independent is_in_span
independent_first f n v rows = ap (λ b. is_independent f n rows && b) (by (new_place f n v (echelon_of f n rows)))
  where
    by : (o : Option ℕ) → not (is_none o) ≡ is_some o
    by None = refl
    by (Some p) = refl

-- the rows are the first one and the others
pub rows_split : {A : Type 0} (rows : List (Vec ℕ A)) (first : Vec ℕ A) → 1 ≤ length rows → first ≡ get_or rows 0 first →
    rows_of rows ≡ first.items ∷ rows_of (take (length rows - 1) (drop 1 rows))
rows_split {A = A} [] first l e = absurd (omega arith)
rows_split {A = A} (v ∷ rows) first l e = (λ i. (sym e i).items ∷ rows_of (sym (take_all (length (v ∷ rows) - 1) rows (omega arith)) i))

pub rows_none : {A : Type 0} (rows : List (Vec ℕ A)) → length rows < 1 → rows_of rows ≡ []
rows_none [] l = refl
rows_none (v ∷ rows) l = absurd (omega arith)
