-- Lists of numbers that rise.
use Rattle.std.proofs.Common.{◌≡◌, ℕ, zero, suc, ◌+◌, ◌-◌, ◌<◌, ◌≤◌, Bool, true, false, ◌&&◌, List, [], ◌∷◌, length, refl, sym, ap₂, subst, arith}
use Rattle.std.specs.Prelude.{slice_index_or, nat_lt}
use Rattle.std.proofs.lemmas.Bool.{and_parts}
use Rattle.mm_checker.specs.Contents.{is_rising}

is_below : (n m : ℕ) → n < m → nat_lt n m ≡ true
is_below n m l = grind (arith, l)

below : (n m : ℕ) → nat_lt n m ≡ true → n < m
below n m e = grind (arith, e)

suc_is : (k : ℕ) → suc k ≡ k + 1
suc_is k = grind arith

steps_rise : (xs : List ℕ) → ((k : ℕ) → suc k < length xs → slice_index_or xs k 0 < slice_index_or xs (suc k) 0) → is_rising xs ≡ true
steps_rise [] h = refl
steps_rise (n ∷ []) h = refl
steps_rise (n ∷ m ∷ ns) h =
    ap₂ (λ a b. a && b) (is_below n m (h 0 (omega arith))) (steps_rise (m ∷ ns) (λ k l. h (suc k) (omega (arith, l))))

-- each number is below the next
pub rising_from : (xs : List ℕ) → ((k : ℕ) → k + 1 < length xs → slice_index_or xs k 0 < slice_index_or xs (k + 1) 0) → is_rising xs ≡ true
rising_from xs h = steps_rise xs (λ k l. subst (λ j. slice_index_or xs k 0 < slice_index_or xs j 0) (sym (suc_is k)) (h k (omega (arith, l))))

rising_step : (xs : List ℕ) → is_rising xs ≡ true → (k : ℕ) → suc k < length xs → slice_index_or xs k 0 < slice_index_or xs (suc k) 0
rising_step [] h k l = absurd (omega (arith, l))
rising_step (n ∷ []) h k l = absurd (omega (arith, l))
rising_step (n ∷ m ∷ ns) h zero l = below n m (and_parts (nat_lt n m) (is_rising (m ∷ ns)) h).0
rising_step (n ∷ m ∷ ns) h (suc k) l = rising_step (m ∷ ns) (and_parts (nat_lt n m) (is_rising (m ∷ ns)) h).1 k (omega (arith, l))

rising_at : (xs : List ℕ) → is_rising xs ≡ true → (k : ℕ) → k + 1 < length xs → slice_index_or xs k 0 < slice_index_or xs (k + 1) 0
rising_at xs h k l = subst (λ j. slice_index_or xs k 0 < slice_index_or xs j 0) (suc_is k) (rising_step xs h k (omega (arith, l)))

-- a number that is not below the next
pub rising_fails : (xs : List ℕ) (i : ℕ) → 0 < i → i < length xs → slice_index_or xs i 0 ≤ slice_index_or xs (i - 1) 0 → is_rising xs ≡ false
rising_fails xs i some l high = by (is_rising xs) refl
  where
    by : (b : Bool) → is_rising xs ≡ b → b ≡ false
    by false e = refl
    by true e =
        let before : (i - 1) + 1 ≡ i = grind (arith, some) in
        let low : slice_index_or xs (i - 1) 0 < slice_index_or xs ((i - 1) + 1) 0 = rising_at xs e (i - 1) (omega (arith, l, some)) in
        let here : slice_index_or xs (i - 1) 0 < slice_index_or xs i 0 = subst (λ k. slice_index_or xs (i - 1) 0 < slice_index_or xs k 0) before low in
        absurd (omega (arith, here, high))
