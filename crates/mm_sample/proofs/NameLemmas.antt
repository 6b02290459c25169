-- The names of elements have the form of names, and differ.
use Rattle.std.proofs.Common.{◌≡◌, ℕ, zero, suc, ◌+◌, ◌^◌, ◌%◌, ◌<◌, ◌≤◌, Bool, true, false, List, [], ◌∷◌, ◌++◌, length, map, refl, ap₂, ◌∙◌, arith}
use Rattle.std.specs.Prelude.{◌&&◌, ◌||◌, nat_le}
use Rattle.std.specs.Char.{is_ascii_lowercase}
use Rattle.std.specs.Fmt.{decimal}
use Rattle.std.specs.List.{list_all, range_with_len}
use Rattle.std.specs.Str.{bytes_eq}
use Rattle.std.proofs.lemmas.Bool.{le-leb, and_from}
use Rattle.std.proofs.lemmas.Bool.Decides.{nat_tests}
use Rattle.std.proofs.lemmas.Fmt.{decimal_by_steps, decimal_injective, length-decimal-le}
use Rattle.std.proofs.lemmas.List.Folds.{list_all-append}
use Rattle.std.proofs.lemmas.Slice.Eq.{bytes_eq-Decides}
use Rattle.mm_base.specs.Names.{is_name, is_name_byte}
use Rattle.mm_sample.specs.SampleTree.{element_name}
use Rattle.mm_tree.specs.NamedTree.{is_one_of}

-- ---- their form

digit_in_name : (d : ℕ) → d < 10 → is_name_byte (48 + d) ≡ true
digit_in_name d h = grind (arith, nat_tests)

one_digit : (n : ℕ) → n < 10 → list_all is_name_byte ((48 + n) ∷ []) ≡ true
one_digit n h = and_from (is_name_byte (48 + n)) true (digit_in_name n h) refl

more_digits : (n : ℕ) (ds : List ℕ) → 10 ≤ n → list_all is_name_byte ds ≡ true → list_all is_name_byte (ds ++ (48 + n % 10) ∷ []) ≡ true
more_digits n ds h all =
    list_all-append is_name_byte ds ((48 + n % 10) ∷ [])
    ∙ and_from (list_all is_name_byte ds) (list_all is_name_byte ((48 + n % 10) ∷ [])) all (one_digit (n % 10) (omega arith))

pub element_is_name : (i : ℕ) → i < 2 ^ 32 → is_name (element_name i) ≡ true
element_is_name i h =
    and_from (is_ascii_lowercase 101 && nat_le (length (decimal i)) 15) (list_all is_name_byte (decimal i))
    (and_from (is_ascii_lowercase 101) (nat_le (length (decimal i)) 15) refl
    (le-leb (length (decimal i)) 15 (omega (arith, length-decimal-le 10 i (omega arith) (omega (arith, h)) (omega (arith, h))))))
    (decimal_by_steps (λ n ds. list_all is_name_byte ds ≡ true) one_digit more_digits i (omega (arith, h)))

-- ---- that they differ

not_true : (b : Bool) → (b ≡ true → ⊥) → b ≡ false
not_true true refuted = absurd (refuted refl)
not_true false refuted = refl

without_letter : (m n : List ℕ) → 101 ∷ m ≡ 101 ∷ n → m ≡ n
without_letter m n e = cc

other_name : (i j : ℕ) → j < i → i < 2 ^ 32 → bytes_eq (element_name i) (element_name j) ≡ false
other_name i j below h = not_true (bytes_eq (element_name i) (element_name j)) (λ same.
    let e : i ≡ j =
    decimal_injective i j (omega (arith, h)) (omega (arith, h, below))
    (without_letter (decimal i) (decimal j) ((bytes_eq-Decides (element_name i) (element_name j)).0 same)) in
    absurd (omega (arith, e, below)))

pub element_is_new : (i a n : ℕ) → a + n ≤ i → i < 2 ^ 32 → is_one_of (element_name i) (map element_name (range_with_len a n)) ≡ false
element_is_new i a zero h few = refl
element_is_new i a (suc n) h few =
    ap₂ (λ (b c : Bool). b || c) (other_name i a (omega (arith, h)) few) (element_is_new i (a + 1) n (omega (arith, h)) few)
