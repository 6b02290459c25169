-- Lists made from a function of the index: in two parts, with a shifted index, of equal functions.
use Rattle.std.proofs.Common.{ℕ, zero, suc, ◌+◌, ◌<◌, ◌≤◌, ◌≡◌, List, [], ◌∷◌, ◌++◌, map, refl, sym, ap, ap₂, ◌∙◌, arith}
use Rattle.std.specs.List.{range_with_len}
use Rattle.std.proofs.lemmas.List.FromFn.{map-range_with_len_more}

module _ {X : Type 0} where
  pub split_range : (g : ℕ → X) (a m n : ℕ) → map g (range_with_len a (m + n)) ≡ map g (range_with_len a m) ++ map g (range_with_len (a + m) n)
  split_range g a zero n =
      let e : zero + n ≡ n = omega arith in
      let z : a ≡ a + zero = omega arith in
      ap₂ (λ i k. map g (range_with_len i k)) z e
  split_range g a (suc m) n =
      let e : suc m + n ≡ suc (m + n) = omega arith in
      let s : a + 1 + m ≡ a + suc m = omega arith in
      ap (λ k. map g (range_with_len a k)) e
      ∙ ap (λ xs. g a ∷ xs) (split_range g (a + 1) m n ∙ ap (λ i. map g (range_with_len (a + 1) m) ++ map g (range_with_len i n)) s)

  pub shift_range : (g : ℕ → X) (b a n : ℕ) → map g (range_with_len (b + a) n) ≡ map (λ i. g (b + i)) (range_with_len a n)
  shift_range g b a zero = refl
  shift_range g b a (suc n) =
      let s : b + a + 1 ≡ b + (a + 1) = omega arith in
      ap (λ xs. g (b + a) ∷ xs) (ap (λ i. map g (range_with_len i n)) s ∙ shift_range g b (a + 1) n)

  pub same_range : (g h : ℕ → X) (a n : ℕ) → ((i : ℕ) → a ≤ i → i < a + n → g i ≡ h i) → map g (range_with_len a n) ≡ map h (range_with_len a n)
  same_range g h a zero e = refl
  same_range g h a (suc n) e =
      ap₂ (λ x xs. x ∷ xs) (e a (omega arith) (omega arith)) (same_range g h (a + 1) n (λ i l m. e i (omega arith) (omega arith)))

pub map_each : {X Y : Type 0} (h g : X → Y) (xs : List X) → ((x : X) → h x ≡ g x) → map h xs ≡ map g xs
map_each h g [] e = refl
map_each h g (x ∷ xs) e = ap₂ (λ y ys. y ∷ ys) (e x) (map_each h g xs e)

map_itself : (xs : List ℕ) → map (λ i. i) xs ≡ xs
map_itself [] = refl
map_itself (x ∷ xs) = ap (λ ys. x ∷ ys) (map_itself xs)

-- one more of the first numbers
pub next_number : (n : ℕ) → range_with_len 0 n ++ n ∷ [] ≡ range_with_len 0 (n + 1)
next_number n =
    sym (sym (map_itself (range_with_len 0 (n + 1))) ∙ map-range_with_len_more (λ i. i) 0 n n (omega arith)
    ∙ ap (λ xs. xs ++ n ∷ []) (map_itself (range_with_len 0 n)))
