-- How lists of values grow, and what they sum to.
use Rattle.std.proofs.Common.{◌≡◌, ◌+◌, ℕ, Bool, true, false, not, cond, List, [], ◌∷◌, filter, sum_by, refl, sym, ap, ◌∙◌, subst, arith}
use Rattle.std.specs.Ordering.{is_eq}
use Rattle.std.proofs.lemmas.List.Sums.{sum_by-append}
use Rattle.std.proofs.Math.Nat.{zero-add}
use Rattle.std.specs.declared.cmp.Ordering.{Ordering}
use Rattle.std.specs.declared.cmp.Ordering.TheVariants.{Less, Equal, Greater}
use Rattle.mm_logic.specs.Order.{SameMembers, by_order, insert, normal, Below, Rising}
use Rattle.mm_logic.specs.Value.{Value, value_cmp}
use Rattle.mm_logic.specs.Occurrence.{same, is_among, distinct, fresh}
use Rattle.mm_logic.specs.Growth.{SameBag}
use Rattle.mm_logic.proofs.SetLemmas.{Rising-normal, normal-same}
use Rattle.mm_logic.proofs.ValueLemmas.{value_total, value_exact}

pub sum_by-cons : (f : Value → ℕ) (v : Value) (vs : List Value) → sum_by f (v ∷ vs) ≡ f v + sum_by f vs
sum_by-cons f v vs = sum_by-append f (v ∷ []) vs ∙ omega arith

-- f, with nothing at what fails the test
abbrev pub where_passes : (Value → Bool) → (Value → ℕ) → Value → ℕ
where_passes q f v = cond (q v) (f v) 0

pub sum_by-filter : (f : Value → ℕ) (q : Value → Bool) (vs : List Value) → sum_by f (filter q vs) ≡ sum_by (where_passes q f) vs
sum_by-filter f q [] = refl
sum_by-filter f q (v ∷ vs) = by (q v) (sum_by-filter f q vs) ∙ sym (sum_by-cons (where_passes q f) v vs)
  where
    by : (b : Bool) → sum_by f (filter q vs) ≡ sum_by (where_passes q f) vs → sum_by f (cond b (v ∷ filter q vs) (filter q vs)) ≡ cond b (f v) 0 + sum_by (where_passes q f) vs
    by true ih = sum_by-cons f v (filter q vs) ∙ ap (λ n. f v + n) ih
    by false ih = ih ∙ omega arith

-- f, with nothing at x
abbrev other : Value → (Value → ℕ) → Value → ℕ
other x f = where_passes (λ w. not (same x w)) f

other-below : (f : Value → ℕ) (x : Value) (ws : List Value) → Below value_cmp x ws → sum_by (other x f) ws ≡ sum_by f ws
other-below f x [] h = refl
other-below f x (w ∷ ws) h =
    sum_by-cons (other x f) w ws
    ∙ (λ i. cond (not (is_eq (h.0 i))) (f w) 0 + other-below f x ws h.1 i)
    ∙ sym (sum_by-cons f w ws)

swap_front : (a b c : ℕ) → a + (b + c) ≡ b + (a + c)
swap_front a b c = omega arith

sum_by-insert : (f : Value → ℕ) (x : Value) (ws : List Value) → Rising value_cmp ws → sum_by f (insert value_cmp x ws) ≡ f x + sum_by (other x f) ws
sum_by-insert f x [] h = sum_by-cons f x []
sum_by-insert f x (w ∷ ws) h = by (sum_by-insert f x ws h.1) (value_cmp x w) refl
  where
    by : sum_by f (insert value_cmp x ws) ≡ f x + sum_by (other x f) ws → (r : Ordering) → value_cmp x w ≡ r
        → sum_by f (by_order r (x ∷ w ∷ ws) (w ∷ ws) (w ∷ insert value_cmp x ws)) ≡ f x + sum_by (other x f) (w ∷ ws)
    by ih Less e = sum_by-cons f x (w ∷ ws) ∙ ap (λ n. f x + n) (sym (other-below f x (w ∷ ws) (e, below ws h.0)))
      where
        below : (zs : List Value) → Below value_cmp w zs → Below value_cmp x zs
        below [] k = tt
        below (z ∷ zs) k = (value_total.trans x w z e k.0, below zs k.1)
    by ih Equal e =
        sum_by-cons f w ws
        ∙ (λ i. f (sym (value_exact x w e) i) + sym (other-below f x ws (subst (λ z. Below value_cmp z ws) (sym (value_exact x w e)) h.0)) i)
        ∙ ap (λ n. f x + n) (sym (sum_by-cons (other x f) w ws ∙ ap (λ r. cond (not (is_eq r)) (f w) 0 + sum_by (other x f) ws) e ∙ zero-add (sum_by (other x f) ws)))
    by ih Greater e =
        sum_by-cons f w (insert value_cmp x ws)
        ∙ ap (λ n. f w + n) ih
        ∙ swap_front (f w) (f x) (sum_by (other x f) ws)
        ∙ ap (λ n. f x + n) (sym (sum_by-cons (other x f) w ws ∙ ap (λ r. cond (not (is_eq r)) (f w) 0 + sum_by (other x f) ws) e))

-- the different values in order and at first sight are the same
pub bag-normal : (vs : List Value) → SameBag (normal value_cmp vs) (distinct vs)
bag-normal [] f = refl
bag-normal (v ∷ vs) f =
    sum_by-insert f v (normal value_cmp vs) (Rising-normal value_total value_exact vs)
    ∙ ap (λ n. f v + n) (bag-normal vs (other v f) ∙ sym (sum_by-filter f (λ w. not (same v w)) (distinct vs)))
    ∙ sym (sum_by-cons f v (filter (λ w. not (same v w)) (distinct vs)))

-- lists with the same members have the same different values
pub bag-same : (vs ws : List Value) → SameMembers vs ws → SameBag (distinct vs) (distinct ws)
bag-same vs ws h f = sym (bag-normal vs f) ∙ ap (sum_by f) (normal-same value_total value_exact vs ws h) ∙ bag-normal ws f

pub fresh-same : (K vs ws : List Value) → SameMembers vs ws → SameBag (fresh K vs) (fresh K ws)
fresh-same K vs ws h f =
    sum_by-filter f (λ v. not (is_among K v)) (distinct vs)
    ∙ bag-same vs ws h (where_passes (λ v. not (is_among K v)) f)
    ∙ sym (sum_by-filter f (λ v. not (is_among K v)) (distinct ws))
