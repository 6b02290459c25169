-- The functions of `Decide` decide what the relations say.
use Rattle.std.proofs.Common.{ℕ, zero, suc, ◌<◌, ◌≡◌, ◌≢◌, ◌↔◌, inl, inr, Bool, true, false, ◌&&◌, cond, Option, Some, None, List, [], ◌∷◌, length, get_or, refl, sym, ap, ◌∙◌, subst, arith, eqb, eqb-true, replicate}
use Rattle.std.specs.Prelude.{IsTrue, is_some}
use Rattle.std.proofs.lemmas.Bool.{cases_eq, and_parts, and_from, eqb-false}
use Rattle.std.proofs.lemmas.List.Elements.{All-nil}
use Rattle.mm_field.specs.declared.Field.{Field}
use Rattle.mm_field.specs.Vectors.{zeros, IsVector, AreVectors, InSpan, AreIndependent, SameRowSpace}
use Rattle.mm_field.proofs.VectorLemmas.{zeros_from_entries}
use Rattle.mm_field.proofs.CombinationLemmas.{first_row, other_rows, InSpan-within, InSpan-zeros}
use Rattle.mm_linear.proofs.IndependenceLemmas.{none_independent}
use Rattle.mm_linear.specs.Echelons.{IsEchelon}
use Rattle.mm_linear.specs.Eliminate.{residue}
use Rattle.mm_linear.specs.Decide.{last_place, row_for, put_at, new_place, echelon_of, is_independent}
use Rattle.mm_linear.proofs.InsertLemmas.{IsVector-residue, no_residue, in_span_with_no_residue, new_row, scaled_residue, inserted_span, IsEchelon-inserted}
use Rattle.std.proofs.lemmas.List.{get_or-replicate}
use Rattle.mm_linear.proofs.SpaceLemmas.{IsEchelon-zeros, same_span_inside, false_true}
use Rattle.mm_linear.proofs.SumLemmas.{same_more}
use Rattle.mm_linear.proofs.IndependenceLemmas.{independent_more, independent_rest, independent_outside}

pub record IsLast (k : ℕ) (v : List ℕ) (p : ℕ) : Type 0 where
  pub place : p < k
  pub nonzero : get_or v p 0 ≢ 0
  pub late : (j : ℕ) → p < j → j < k → get_or v j 0 ≡ 0

pub last_place-some : (k : ℕ) (v : List ℕ) (p : ℕ) → last_place k v ≡ Some p → IsLast k v p
last_place-some zero v p e = cc
last_place-some (suc k) v p e = go (λ q. last_place-some k v p q) (eqb (get_or v k 0) 0) refl e
  where
    go : (last_place k v ≡ Some p → IsLast k v p) → (b : Bool) → eqb (get_or v k 0) 0 ≡ b →
        cond b (last_place k v) (Some k) ≡ Some p → IsLast (suc k) v p
    go below true t e =
        let h = below e in
        record {
          place = (let a = h.place in omega arith);
          nonzero = h.nonzero;
          late = λ j lj mj. elim (cases_eq j k) [
            | inl q ↦ ap (λ m. get_or v m 0) q ∙ eqb-true _ _ t
            | inr ne ↦ h.late j lj (omega arith)
          ];
        }
    go below false t e =
        let q : k ≡ p = cc in
        record {
          place = omega arith;
          nonzero = subst (λ m. get_or v m 0 ≢ 0) q (eqb-false _ _ t);
          late = λ j lj mj. absurd (omega arith);
        }

pub last_place-none : (k : ℕ) (v : List ℕ) → last_place k v ≡ None → (j : ℕ) → j < k → get_or v j 0 ≡ 0
last_place-none zero v e j l = absurd (omega arith)
last_place-none (suc k) v e j l = go (λ q m. last_place-none k v q j m) (eqb (get_or v k 0) 0) refl e
  where
    go : (last_place k v ≡ None → j < k → get_or v j 0 ≡ 0) → (b : Bool) → eqb (get_or v k 0) 0 ≡ b →
        cond b (last_place k v) (Some k) ≡ None → get_or v j 0 ≡ 0
    go below true t e = elim (cases_eq j k) [
      | inl q ↦ ap (λ m. get_or v m 0) q ∙ eqb-true _ _ t
      | inr ne ↦ below e (omega arith)
    ]
    go below false t e = cc

-- v is new exactly where it is outside the span
pub new_place-none : (f : Field) (n : ℕ) (v : List ℕ) (rows : List (List ℕ)) → IsEchelon f n rows → IsVector f n v →
    new_place f n v rows ≡ None → residue f n v rows ≡ zeros n
unfolding new_place
new_place-none f n v rows h hv e =
    let l : length (residue f n v rows) ≡ n = (IsVector-residue f n v rows h.each hv).len in
    zeros_from_entries (residue f n v rows) (λ k lk. last_place-none n (residue f n v rows) e k (omega arith)) ∙ ap zeros l

pub new_place-some : (f : Field) (n : ℕ) (v : List ℕ) (rows : List (List ℕ)) (p : ℕ) →
    new_place f n v rows ≡ Some p → IsLast n (residue f n v rows) p
unfolding new_place
new_place-some f n v rows p e = last_place-some n (residue f n v rows) p e

pub new_is_outside : (f : Field) (n : ℕ) (v : List ℕ) (rows : List (List ℕ)) (p : ℕ) → IsEchelon f n rows → IsVector f n v →
    new_place f n v rows ≡ Some p → InSpan f n rows v → ⊥
new_is_outside f n v rows p h hv e s =
    let last = new_place-some f n v rows p e in
    last.nonzero (ap (λ u. get_or u p 0) (no_residue f n v rows h hv s) ∙ get_or-replicate n p 0 0 last.place)

-- the rows after a vector
pub record IsRowsOf (f : Field) (n : ℕ) (vs rows : List (List ℕ)) : Type 0 where
  pub echelon : IsEchelon f n rows
  pub span : SameRowSpace f n vs rows

pub put_at_is : (f : Field) (n : ℕ) (v : List ℕ) (rows : List (List ℕ)) → IsEchelon f n rows → IsVector f n v →
    (o : Option ℕ) → new_place f n v rows ≡ o → IsRowsOf f n (v ∷ rows) (put_at f n v rows o)
put_at_is f n v rows h hv None e = record {
  echelon = h;
  span = same_span_inside f n v rows h hv (new_place-none f n v rows h hv e);
}
put_at_is f n v rows h hv (Some p) e =
    let last = new_place-some f n v rows p e in
    let new = new_row f n p v rows h hv last.place last.nonzero last.late in
    record {
      echelon = IsEchelon-inserted f n p (row_for f n p v rows) rows h new;
      span = inserted_span f n p v (row_for f n p v rows) rows h hv new (scaled_residue f n p v rows h hv last.place last.nonzero);
    }

-- `echelon_of` gives the reduced rows of the span.
pub echelon_of_is : (f : Field) (n : ℕ) (vs : List (List ℕ)) → AreVectors f n vs → IsRowsOf f n vs (echelon_of f n vs)
unfolding echelon_of
echelon_of_is f n [] h =
    let z = IsEchelon-zeros f n in
    record {
      echelon = z;
      span = (
        All-nil (λ u. InSpan f n (replicate n (zeros n)) u),
        (λ k d l. subst (λ u. InSpan f n [] u)
            (sym (get_or-replicate n k (zeros n) d (let e : length (replicate n (zeros n)) ≡ n = z.count in omega arith)))
            (InSpan-zeros f n [] (All-nil (λ u. IsVector f n u)))),
      );
    }
echelon_of_is f n (v ∷ vs) h =
    let hv = first_row f n v vs h in
    let hs = other_rows f n v vs h in
    let rest = echelon_of_is f n vs hs in
    let put = put_at_is f n v (echelon_of f n vs) rest.echelon hv (new_place f n v (echelon_of f n vs)) refl in
    record {
      echelon = put.echelon;
      span = same_more f n v vs (echelon_of f n vs) _ hv hs rest.echelon.each put.echelon.each rest.span put.span;
    }

in_rest : (f : Field) (n : ℕ) (v : List ℕ) (vs : List (List ℕ)) → AreVectors f n vs → IsRowsOf f n vs (echelon_of f n vs) →
    InSpan f n vs v ↔ InSpan f n (echelon_of f n vs) v
in_rest f n v vs hs r = (
  (λ p. InSpan-within f n vs (echelon_of f n vs) v r.echelon.each r.span.0 p),
  (λ p. InSpan-within f n (echelon_of f n vs) vs v hs r.span.1 p),
)

-- `is_independent` decides independence.
pub is_independent_decides : (f : Field) (n : ℕ) (vs : List (List ℕ)) → AreVectors f n vs →
    IsTrue (is_independent f n vs) ↔ AreIndependent f n vs
unfolding is_independent
is_independent_decides f n [] h = ((λ t. none_independent f n), (λ i. refl))
is_independent_decides f n (v ∷ vs) h =
    let hv = first_row f n v vs h in
    let hs = other_rows f n v vs h in
    let r = echelon_of_is f n vs hs in
    let rest = is_independent_decides f n vs hs in
    go hv hs r rest (new_place f n v (echelon_of f n vs)) refl
  where
    go : IsVector f n v → AreVectors f n vs → IsRowsOf f n vs (echelon_of f n vs) →
        (IsTrue (is_independent f n vs) ↔ AreIndependent f n vs) → (o : Option ℕ) → new_place f n v (echelon_of f n vs) ≡ o →
        IsTrue (is_independent f n vs && is_some (new_place f n v (echelon_of f n vs))) ↔ AreIndependent f n (v ∷ vs)
    go hv hs r rest None e = (
      (λ t.
          let bad : is_some (new_place f n v (echelon_of f n vs)) ≡ true = (and_parts _ _ t).1 in
          false_true _ (sym (ap is_some e) ∙ bad)),
      (λ ind. absurd (independent_outside f n v vs hv ind
          ((in_rest f n v vs hs r).1
          (in_span_with_no_residue f n v (echelon_of f n vs) r.echelon hv
          (new_place-none f n v (echelon_of f n vs) r.echelon hv e))))),
    )
    go hv hs r rest (Some p) e = (
      (λ t. independent_more f n v vs hv hs (rest.0 (and_parts _ _ t).0)
          (λ q. new_is_outside f n v (echelon_of f n vs) p r.echelon hv e ((in_rest f n v vs hs r).0 q))),
      (λ ind. and_from _ _ (rest.1 (independent_rest f n v vs hv ind)) (ap is_some e)),
    )

pub no_rows_independent : (f : Field) (n : ℕ) → is_independent f n [] ≡ true
unfolding is_independent
no_rows_independent f n = refl
