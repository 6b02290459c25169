-- Digits that are shown in place.
use native.Mathlib.Numerals.{unary_clauses}
use Rattle.std.proofs.Common.{◌≡◌, ℕ, zero, suc, ◌+◌, ◌-◌, ◌<◌, List, [], ◌∷◌, ◌++◌, map, take, drop, length, slice_index_or, slice_set, refl, ap, arith}
use Rattle.mm_space.specs.DigitTexts.{digit_of}

-- the first i bytes shown, and then the others as they are
abbrev partly : List ℕ → ℕ → List ℕ
partly bytes i = map digit_of (take i bytes) ++ drop i bytes

one_more : (bytes : List ℕ) (i : ℕ) → i < length bytes → slice_set (partly bytes i) i (slice_index_or (partly bytes i) i 0 - 48) ≡ partly bytes (suc i)
one_more [] i l = absurd (omega (arith, l))
one_more (b ∷ bytes) zero l = refl
one_more (b ∷ bytes) (suc i) l = ap (λ digits. digit_of b ∷ digits) (one_more bytes i (omega (arith, l)))

-- the next byte becomes the digit that it shows
pub shown_next : (bytes : List ℕ) (i : ℕ) → i < length bytes
    → slice_set (map digit_of (take i bytes) ++ drop i bytes) i (slice_index_or (map digit_of (take i bytes) ++ drop i bytes) i 0 - 48)
    ≡ map digit_of (take (i + 1) bytes) ++ drop (i + 1) bytes
shown_next bytes i l = simp unary_clauses (one_more bytes i l)
