-- Lists that are the same item by item.
use Rattle.std.proofs.Common.{◌≡◌, ℕ, zero, suc, ◌+◌, ◌<◌, Bool, true, false, ◌&&◌, List, [], ◌∷◌, length, refl, sym, ap, ◌∙◌, subst, inl, inr, arith}
use Rattle.std.specs.Prelude.{slice_index_or}
use Rattle.std.specs.Cmp.Lexicographic.{pointwise}
use Rattle.std.proofs.lemmas.Bool.{cases_order}

-- what holds below k and at k
pub one_more : (P : ℕ → Type 0) (k : ℕ) → ((i : ℕ) → i < k → P i) → P k → (i : ℕ) → i < k + 1 → P i
one_more P k before at i l = elim (cases_order i k) [
  | inl e ↦ subst P (sym e) at
  | inr o ↦ elim o [
    | inl below ↦ before i below
    | inr above ↦ absurd (omega (arith, l, above))
  ]
]

and_false : (b c : Bool) → false ≡ c → false ≡ (b && c)
and_false false c e = refl
and_false true c e = e

module _ {A : Type 0} (same : A → A → Bool) (d : A) where
  pub other_lengths : (xs ys : List A) → (length xs ≡ length ys → ⊥) → false ≡ pointwise same xs ys
  other_lengths [] [] h = absurd (h refl)
  other_lengths [] (y ∷ ys) h = refl
  other_lengths (x ∷ xs) [] h = refl
  other_lengths (x ∷ xs) (y ∷ ys) h = and_false (same x y) (pointwise same xs ys) (other_lengths xs ys (λ e. h (ap suc e)))

  pub one_other : (xs ys : List A) (i : ℕ) → length xs ≡ length ys → i < length xs → same (slice_index_or xs i d) (slice_index_or ys i d) ≡ false
      → false ≡ pointwise same xs ys
  one_other [] ys i e l h = absurd (omega (arith, l))
  one_other (x ∷ xs) [] i e l h = absurd (omega (arith, e))
  one_other (x ∷ xs) (y ∷ ys) zero e l h = ap (λ b. b && pointwise same xs ys) (sym h)
  one_other (x ∷ xs) (y ∷ ys) (suc i) e l h =
      and_false (same x y) (pointwise same xs ys) (one_other xs ys i (omega (arith, e)) (omega (arith, l)) h)

  pub all_same : (xs ys : List A) → length xs ≡ length ys → ((i : ℕ) → i < length xs → same (slice_index_or xs i d) (slice_index_or ys i d) ≡ true)
      → true ≡ pointwise same xs ys
  all_same [] [] e h = refl
  all_same [] (y ∷ ys) e h = absurd (omega (arith, e))
  all_same (x ∷ xs) [] e h = absurd (omega (arith, e))
  all_same (x ∷ xs) (y ∷ ys) e h =
      all_same xs ys (omega (arith, e)) (λ i l. h (suc i) (omega (arith, l)))
      ∙ ap (λ b. b && pointwise same xs ys) (sym (h 0 (omega arith)))
