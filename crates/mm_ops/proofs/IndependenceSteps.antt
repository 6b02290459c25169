-- Independence of rows, one row before the others.
use Rattle.std.proofs.Common.{ℕ, zero, suc, ◌≡◌, true, false, List, [], ◌∷◌, drop, get_or, sym, subst, ◌↔◌}
use Rattle.std.proofs.lemmas.List.Elements.{All-cons}
use Rattle.std.proofs.lemmas.Bool.{false_from_ne_true, both_ways}
use Rattle.mm_field.specs.declared.Field.{Field}
use Rattle.mm_field.specs.Vectors.{IsVector, AreVectors, InSpan, IsWithin}
use Rattle.mm_field.proofs.CombinationLemmas.{first_row, other_rows, InSpan-within, InSpan-first, InSpan-one_more, IsWithin-within}
use Rattle.mm_linear.specs.Decide.{is_independent}
use Rattle.mm_linear.proofs.DecideLemmas.{is_independent_decides}
use Rattle.mm_space.specs.SpaceValue.{SpaceValue, IsIn, IsSpanOf}
use Rattle.mm_linear.proofs.IndependenceLemmas.{independent_more, independent_rest, independent_outside}

-- a row outside the span of independent rows
pub one_more : (f : Field) (n : ℕ) (v : List ℕ) (vs : List (List ℕ)) → AreVectors f n (v ∷ vs) → is_independent f n vs ≡ true →
    (InSpan f n vs v → ⊥) → is_independent f n (v ∷ vs) ≡ true
one_more f n v vs h e out =
    let hv = first_row f n v vs h in
    let hs = other_rows f n v vs h in
    (is_independent_decides f n (v ∷ vs) h).1 (independent_more f n v vs hv hs ((is_independent_decides f n vs hs).0 e) out)

-- a row in the span of the others
pub one_too_many : (f : Field) (n : ℕ) (v : List ℕ) (vs : List (List ℕ)) → AreVectors f n (v ∷ vs) → InSpan f n vs v →
    is_independent f n (v ∷ vs) ≡ false
one_too_many f n v vs h inside = false_from_ne_true (is_independent f n (v ∷ vs)) (λ e.
    independent_outside f n v vs (first_row f n v vs h) ((is_independent_decides f n (v ∷ vs) h).0 e) inside)

-- dependent rows stay so with rows before them
pub dependent_tail : (f : Field) (n k : ℕ) (g : List (List ℕ)) → AreVectors f n g → is_independent f n (drop k g) ≡ false →
    is_independent f n g ≡ false
dependent_tail f n zero g h e = e
dependent_tail f n (suc k) [] h e = e
dependent_tail f n (suc k) (v ∷ vs) h e =
    let hs = other_rows f n v vs h in
    false_from_ne_true (is_independent f n (v ∷ vs)) (λ t.
    both_ways (is_independent f n vs) (dependent_tail f n k vs hs e)
    ((is_independent_decides f n vs hs).1 (independent_rest f n v vs (first_row f n v vs h) ((is_independent_decides f n (v ∷ vs) h).0 t))))

-- ---- spans that grow by a row

pub in_span_of : (f : Field) (r : ℕ) (vectors : List (List ℕ)) (s : SpaceValue) (v : List ℕ) → AreVectors f r vectors → IsSpanOf f r vectors s →
    IsIn s v ↔ InSpan f r vectors v
in_span_of f r vectors s v h is = (
  (λ p. InSpan-within f r s.rows vectors v h is.span.1 (here p)),
  (λ p. there (InSpan-within f r vectors s.rows v is.each is.span.0 p)),
)
  where
    here : IsIn s v → InSpan f r s.rows v
    here p = subst (λ (k : ℕ). InSpan f k s.rows v) is.length (subst (λ (g : Field). InSpan g s.r s.rows v) is.field p)

    there : InSpan f r s.rows v → IsIn s v
    there p = subst (λ (g : Field). InSpan g s.r s.rows v) (sym is.field) (subst (λ (k : ℕ). InSpan f k s.rows v) (sym is.length) p)

pub span_with : (f : Field) (r : ℕ) (v : List ℕ) (vectors : List (List ℕ)) (old new : SpaceValue) → IsVector f r v → AreVectors f r vectors →
    IsSpanOf f r vectors old → IsSpanOf old.f old.r (v ∷ old.rows) new → IsSpanOf f r (v ∷ vectors) new
span_with f r v vectors old new hv h is more =
    let n : IsSpanOf f r (v ∷ old.rows) new =
    subst (λ (k : ℕ). IsSpanOf f k (v ∷ old.rows) new) is.length (subst (λ (g : Field). IsSpanOf g old.r (v ∷ old.rows) new) is.field more) in
    let all = All-cons (λ u. IsVector f r u) v vectors hv h in
    let mid = All-cons (λ u. IsVector f r u) v old.rows hv is.each in
    let there : IsWithin f r (v ∷ vectors) (v ∷ old.rows) =
    All-cons (λ u. InSpan f r (v ∷ old.rows) u) v vectors (InSpan-first f r v old.rows hv is.each)
    (λ k d l. InSpan-one_more f r v old.rows (get_or vectors k d) hv is.each (is.span.0 k d l)) in
    let back : IsWithin f r (v ∷ old.rows) (v ∷ vectors) =
    All-cons (λ u. InSpan f r (v ∷ vectors) u) v old.rows (InSpan-first f r v vectors hv h)
    (λ k d l. InSpan-one_more f r v vectors (get_or old.rows k d) hv h (is.span.1 k d l)) in
    record {
      field = n.field;
      length = n.length;
      each = n.each;
      span = (IsWithin-within f r (v ∷ vectors) (v ∷ old.rows) new.rows n.each there n.span.0, IsWithin-within f r new.rows (v ∷ old.rows) (v ∷ vectors) all n.span.1 back);
    }
