-- A table of keys, each of which stands for a value, as a list of values.
use Rattle.std.proofs.Common.{◌≡◌, ◌<◌, ℕ, Bool, true, false, not, cond, ◌||◌, List, [], ◌∷◌, ◌++◌, map, length, get_or, sum_by, Some, slice_get, refl, sym, ap, ◌∙◌, subst, arith}
use Rattle.std.specs.List.{list_any}
use Rattle.std.proofs.lemmas.Cmp.{eq_by_cmp_equiv}
use Rattle.std.proofs.lemmas.List.{map-append, length-map, get_or-map}
use Rattle.std.proofs.lemmas.List.Sums.{sum_by-cons}
use Rattle.std.proofs.lemmas.Map.Views.{tells_apart}
use Rattle.std.proofs.lemmas.Option.{slice_get_within, get_or_from_slice_get}
use Rattle.mm_logic.specs.Value.{Value}
use Rattle.mm_logic.specs.Value.Value.{Dead}
use Rattle.mm_logic.specs.Occurrence.{same, is_among, fresh}
use Rattle.mm_logic.specs.Growth.{Grown}
use Rattle.mm_logic.proofs.ValueLemmas.{value_total, value_exact}
use Rattle.mm_states.specs.Lists.{AllFit}

-- values that the order does not tell apart are one
pub same_true : (v w : Value) → same v w ≡ true → v ≡ w
same_true v w h = tells_apart value_exact v w h

pub same_self : (v : Value) → same v v ≡ true
same_self = (eq_by_cmp_equiv value_total).refl

pub both_ways : (a b : Bool) → (a ≡ true → b ≡ true) → (b ≡ true → a ≡ true) → a ≡ b
both_ways true b f g = sym (f refl)
both_ways false true f g = g refl
both_ways false false f g = refl

module _ {K : Type 0} (eq : K → K → Bool) (value : K → Value) (Fits : K → Type 0) (exact : (a b : K) → Fits a → Fits b → eq a b ≡ same (value a) (value b)) where
  pub among_keys : (k : K) (ks : List K) → Fits k → AllFit Fits ks → list_any (eq k) ks ≡ is_among (map value ks) (value k)
  among_keys k [] f a = refl
  among_keys k (x ∷ ks) f a = λ i. exact k x f a.0 i || among_keys k ks f a.1 i

  pub put_grown : (k : K) (ks news : List K) → Fits k → AllFit Fits ks → news ≡ cond (list_any (eq k) ks) ks (ks ++ k ∷ []) → Grown (map value ks) (map value news) (value k ∷ [])
  put_grown k ks news f a e = subst (λ l. Grown (map value ks) (map value l) (value k ∷ [])) (sym e) (by (list_any (eq k) ks) (among_keys k ks f a))
    where
      none : (xs : List Value) → xs ≡ xs ++ []
      none [] = refl
      none (x ∷ xs) = ap (λ z. x ∷ z) (none xs)

      by : (b : Bool) → b ≡ is_among (map value ks) (value k) → Grown (map value ks) (map value (cond b ks (ks ++ k ∷ []))) (value k ∷ [])
      by true h = record { added = []; longer = none (map value ks); exactly = λ g. ap (λ b. sum_by g (cond (not b) (value k ∷ []) [])) h }
      by false h = record { added = value k ∷ []; longer = map-append value ks (k ∷ []); exactly = λ g. ap (λ b. sum_by g (cond (not b) (value k ∷ []) [])) h }

  pub put_fits : (k : K) (ks news : List K) → Fits k → AllFit Fits ks → news ≡ cond (list_any (eq k) ks) ks (ks ++ k ∷ []) → AllFit Fits news
  put_fits k ks news f a e = subst (AllFit Fits) (sym e) (by (list_any (eq k) ks))
    where
      end : (xs : List K) → AllFit Fits xs → AllFit Fits (xs ++ k ∷ [])
      end [] h = (f, tt)
      end (x ∷ xs) h = (h.0, end xs h.1)

      by : (b : Bool) → AllFit Fits (cond b ks (ks ++ k ∷ []))
      by true = a
      by false = end ks a

  -- what a value takes that is put
  pub put_cells : (g : Value → ℕ) (n : ℕ) (k : K) (ks : List K) → Fits k → AllFit Fits ks → g (value k) ≡ n → sum_by g (fresh (map value ks) (value k ∷ [])) ≡ cond (list_any (eq k) ks) 0 n
  put_cells g n k ks f a e = ap (λ b. sum_by g (cond (not b) (value k ∷ []) [])) (sym (among_keys k ks f a)) ∙ by (list_any (eq k) ks)
    where
      by : (b : Bool) → sum_by g (cond (not b) (value k ∷ []) []) ≡ cond b 0 n
      by true = refl
      by false = sum_by-cons g (value k) [] ∙ omega (arith, e)

  pub put_within : (k : K) (ks : List K) (id : ℕ) → slice_get ks id ≡ Some k → id < length (map value ks)
  put_within k ks id at = rw length-map (slice_get_within ks id k at)

  pub put_value : (k : K) (ks : List K) (id : ℕ) → slice_get ks id ≡ Some k → get_or (map value ks) id Dead ≡ value k
  put_value k ks id at = get_or-map value ks id k Dead (slice_get_within ks id k at) ∙ ap value (get_or_from_slice_get ks id k k at)
