-- Arrays and lists of vectors that agree at each place are equal, as `==` tells it.
use Rattle.std.proofs.Common.{ℕ, ◌≡◌, ◌+◌, ◌<◌, ◌≤◌, ◌%◌, ◌/◌, ◌^◌, ◌==◌, List, [], length, get_or, take, true, Decides, bit_or, bit_xor, refl, sym, ap, ◌∙◌, subst, inl, inr, arith}
use Rattle.std.specs.Str.{bytes_eq}
use Rattle.std.specs.Cmp.Lexicographic.{pointwise}
use Rattle.std.specs.Cmp.{both_ways}
use Rattle.std.specs.Int.Bits.{xor_self}
use Rattle.std.proofs.lemmas.Bool.{eqb-true, eq-eqb, cases_lt}
use Rattle.std.proofs.lemmas.List.{ext_get_or, get_or-take, length-take-le}
use Rattle.std.proofs.lemmas.Nat.{le_or_l, le_or_r}
use Rattle.std.proofs.lemmas.Nat.Bits.{same_from_bits, bit_at_xor, bit_at-zero, bit_at-lt}
use Rattle.std.proofs.lemmas.Slice.Eq.{bytes_eq-Decides, slice_eq-Decides}

same_from_xor : (a b : ℕ) → bit_xor a b ≡ 0 → a ≡ b
same_from_xor a b none =
    same_from_bits a b (λ i. omega (arith, sym (bit_at_xor a b i) ∙ ap (λ n. n / 2 ^ i % 2) none ∙ bit_at-zero i, bit_at-lt a i, bit_at-lt b i))

-- the two arrays have one digit at each place below n
abbrev pub AgreeBelow : ℕ → List ℕ → List ℕ → Type 0
AgreeBelow n a b = (k : ℕ) → k < n → get_or a k 0 ≡ get_or b k 0

-- one digit more
agree_one_more : (n : ℕ) (a b : List ℕ) → AgreeBelow n a b → get_or a n 0 ≡ get_or b n 0 → AgreeBelow (n + 1) a b
agree_one_more n a b same e k l =
    elim (cases_lt k n) [
      | inl below ↦ same k below
      | inr here ↦ let at : n ≡ k = omega (arith, l, here) in subst (λ m. get_or a m 0 ≡ get_or b m 0) at e
    ]

pub agree_more : (d n : ℕ) (a b : List ℕ) → (d ≡ 0 → AgreeBelow n a b) → bit_or d (bit_xor (get_or a n 0) (get_or b n 0)) ≡ 0 → AgreeBelow (n + 1) a b
agree_more d n a b same e =
    let rest = bit_xor (get_or a n 0) (get_or b n 0) in
    let left = le_or_l d rest in
    let right = le_or_r d rest in
    agree_one_more n a b (same (omega (arith, left, e))) (same_from_xor (get_or a n 0) (get_or b n 0) (omega (arith, right, e)))

pub none_more : (d n : ℕ) (a b : List ℕ) → (AgreeBelow n a b → d ≡ 0) → AgreeBelow (n + 1) a b → bit_or d (bit_xor (get_or a n 0) (get_or b n 0)) ≡ 0
none_more d n a b none same =
    let x = get_or a n 0 in
    let y = get_or b n 0 in
    ap (λ m. bit_or m (bit_xor x y)) (none (λ k l. same k (omega (arith, l))))
    ∙ ap (λ m. bit_or 0 (bit_xor m y)) (same n (omega arith)) ∙ ap (bit_or 0) (xor_self y)

pub equal_by_difference : (d n : ℕ) (a b : List ℕ) → length a ≡ n → length b ≡ n → (d ≡ 0 → AgreeBelow n a b) → (AgreeBelow n a b → d ≡ 0) →
    (d == 0) ≡ bytes_eq a b
equal_by_difference d n a b la lb same none =
    both_ways (d == 0) (bytes_eq a b)
    (λ e. (bytes_eq-Decides a b).1 (ext_get_or 0 a b (la ∙ sym lb) (λ k l. same (eqb-true d 0 e) k (subst (λ m. k < m) la l))))
    (λ e. eq-eqb d 0 (none (λ k l. ap (λ (v : List ℕ). get_or v k 0) ((bytes_eq-Decides a b).0 e))))

-- ---- lists of vectors

same_rows : (g h : List (List ℕ)) → Decides (pointwise bytes_eq g h) (g ≡ h)
same_rows g h = slice_eq-Decides bytes_eq-Decides g h (pointwise bytes_eq g h) refl

pub equal_rows : (n : ℕ) (g h kept more : List (List ℕ)) → g ≡ take n kept → h ≡ take n more → n ≤ length kept → n ≤ length more →
    ((k : ℕ) → k < n → get_or kept k [] ≡ get_or more k []) → true ≡ pointwise bytes_eq g h
equal_rows n g h kept more eg eh lk lm same =
    let fronts = ext_get_or [] (take n kept) (take n more) (length-take-le n kept lk ∙ sym (length-take-le n more lm))
    (λ k l. let below : k < n = subst (λ m. k < m) (length-take-le n kept lk) l in
    get_or-take n kept k [] below ∙ same k below ∙ sym (get_or-take n more k [] below)) in
    sym ((same_rows g h).1 (eg ∙ fronts ∙ sym eh))
