-- Numbers, names and vectors are words, and what is read of a number is the number.
use Rattle.std.proofs.Common.{◌≡◌, ℕ, suc, ◌+◌, ◌^◌, ◌%◌, ◌<◌, ◌≤◌, Bool, true, List, [], ◌∷◌, ◌++◌, length, Some, None, ℤ, nat_abs, refl, ap, ◌∙◌, arith}
use Rattle.std.specs.Prelude.{◌&&◌, ◌==◌, nat_le, pos, negsuc, neg_ℤ, All, if◌then◌else◌}
use Rattle.std.specs.Char.{is_ascii_digit, is_ascii_lowercase}
use Rattle.std.specs.Fmt.{decimal, signed_decimal}
use Rattle.std.specs.List.{list_all}
use Rattle.std.specs.Str.Parse.{digits_value}
use Rattle.std.proofs.lemmas.Bool.{le-leb, and_from, and_parts}
use Rattle.std.proofs.lemmas.Bool.Decides.{nat_tests}
use Rattle.std.proofs.lemmas.Fmt.{decimal_by_steps, decimal_is_IsNumeral, length-decimal-le}
use Rattle.std.proofs.lemmas.List.{length-map}
use Rattle.std.proofs.lemmas.List.Elements.{All-nil, All-cons, All-map}
use Rattle.std.proofs.lemmas.List.Folds.{list_all-append}
use Rattle.mm_base.specs.Names.{is_name, is_name_byte}
use Rattle.mm_lines.specs.Numbers.{number_of, u32_of, i64_of, signed}
use Rattle.mm_space.specs.VectorText.{vector_text}
use Rattle.mm_job_text.proofs.SpacedLemmas.{IsWord, above_is_not}

all_above : (p : ℕ → Bool) (bs : List ℕ) → ((b : ℕ) → p b ≡ true → 36 ≤ b) → list_all p bs ≡ true → All (λ b. 36 ≤ b) bs
all_above p [] above h = All-nil (λ b. 36 ≤ b)
all_above p (b ∷ bs) above h =
    All-cons (λ c. 36 ≤ c) b bs (above b (and_parts (p b) (list_all p bs) h).0) (all_above p bs above (and_parts (p b) (list_all p bs) h).1)

-- ---- numbers

digit_above : (b : ℕ) → is_ascii_digit b ≡ true → 48 ≤ b
digit_above b h = grind (arith, nat_tests)

is_digit : (d : ℕ) → d < 10 → is_ascii_digit (48 + d) ≡ true
is_digit d h = grind (arith, nat_tests)

one_digit : (n : ℕ) → n < 10 → list_all is_ascii_digit ((48 + n) ∷ []) ≡ true
one_digit n h = and_from (is_ascii_digit (48 + n)) true (is_digit n h) refl

more_digits : (n : ℕ) (ds : List ℕ) → 10 ≤ n → list_all is_ascii_digit ds ≡ true → list_all is_ascii_digit (ds ++ (48 + n % 10) ∷ []) ≡ true
more_digits n ds h all =
    list_all-append is_ascii_digit ds ((48 + n % 10) ∷ []) ∙ and_from (list_all is_ascii_digit ds) (list_all is_ascii_digit ((48 + n % 10) ∷ [])) all (one_digit (n % 10) (omega arith))

decimal_digits : (n : ℕ) → n < 2 ^ 64 → list_all is_ascii_digit (decimal n) ≡ true
decimal_digits n h = decimal_by_steps (λ n ds. list_all is_ascii_digit ds ≡ true) one_digit more_digits n h

pub decimal_word : (n : ℕ) → n < 2 ^ 64 → IsWord (decimal n)
decimal_word n h = record {
  some = (decimal_is_IsNumeral n h).0.0;
  bytes = all_above is_ascii_digit (decimal n) (λ b p. omega (arith, digit_above b p)) (decimal_digits n h);
}

pub number_back : (most n : ℕ) → 0 < most → n < 10 ^ most → n < 2 ^ 64 → number_of most (decimal n) ≡ Some n
number_back most n some small h =
    let ds = decimal n in
    ap (λ (b : Bool). if b then Some (digits_value 10 ds) else None)
    (and_from (nat_le 1 (length ds) && nat_le (length ds) most) (list_all is_ascii_digit ds)
    (and_from (nat_le 1 (length ds)) (nat_le (length ds) most) (le-leb 1 (length ds) (decimal_is_IsNumeral n h).0.0) (le-leb (length ds) most (length-decimal-le most n some small h)))
    (decimal_digits n h))
    ∙ ap Some (decimal_is_IsNumeral n h).1

pub u32_back : (n : ℕ) → n ≤ 6 → u32_of (decimal n) ≡ Some n
u32_back n h = number_back 9 n (omega arith) (omega arith) (omega arith)

unsigned : (ds : List ℕ) → 0 < length ds → list_all is_ascii_digit ds ≡ true → i64_of ds ≡ signed pos (number_of 18 ds)
unsigned [] some h = absurd (omega arith)
unsigned (b ∷ bs) some h =
    ap (λ (c : Bool). if c then signed (λ n. neg_ℤ (pos n)) (number_of 18 bs) else signed pos (number_of 18 (b ∷ bs)))
    (above_is_not b 45 (b == 45) (omega (arith, digit_above b (and_parts (is_ascii_digit b) (list_all is_ascii_digit bs) h).0)) refl)

pub i64_back : (w : ℤ) → nat_abs w ≤ 1000000000000 → i64_of (signed_decimal w) ≡ Some w
i64_back (pos n) h =
    unsigned (decimal n) (decimal_is_IsNumeral n (omega arith)).0.0 (decimal_digits n (omega arith)) ∙ ap (signed pos) (number_back 18 n (omega arith) (omega arith) (omega arith))
i64_back (negsuc n) h = ap (signed (λ n. neg_ℤ (pos n))) (number_back 18 (suc n) (omega arith) (omega arith) (omega arith))

pub signed_word : (w : ℤ) → nat_abs w ≤ 1000000000000 → IsWord (signed_decimal w)
signed_word (pos n) h = decimal_word n (omega arith)
signed_word (negsuc n) h = record { some = omega arith; bytes = All-cons (λ b. 36 ≤ b) 45 (decimal (suc n)) (omega arith) (decimal_word (suc n) (omega arith)).bytes }

pub length_signed : (w : ℤ) → nat_abs w ≤ 1000000000000 → length (signed_decimal w) ≤ 14
length_signed (pos n) h = omega (arith, length-decimal-le 13 n (omega arith) (omega arith) (omega arith))
length_signed (negsuc n) h = omega (arith, length-decimal-le 13 (suc n) (omega arith) (omega arith) (omega arith))

pub length_small : (n : ℕ) → n ≤ 6 → length (decimal n) ≤ 1
length_small n h = length-decimal-le 1 n (omega arith) (omega arith) (omega arith)

-- ---- names and vectors

name_byte_above : (b : ℕ) → is_name_byte b ≡ true → 36 ≤ b
name_byte_above b h = grind (arith, nat_tests)

lowercase_above : (b : ℕ) → is_ascii_lowercase b ≡ true → 36 ≤ b
lowercase_above b h = grind (arith, nat_tests)

-- the first byte of a name is a letter, and all that follow it are of a name
pub record IsNamed (b : ℕ) (bs : List ℕ) : Type 0 where
  pub letter : is_ascii_lowercase b ≡ true
  pub each : list_all is_name_byte bs ≡ true

named : (b : ℕ) (bs : List ℕ) → is_name (b ∷ bs) ≡ true → IsNamed b bs
named b bs h =
    let front = (and_parts (is_ascii_lowercase b && nat_le (length bs) 15) (list_all is_name_byte bs) h).0 in
    record {
      letter = (and_parts (is_ascii_lowercase b) (nat_le (length bs) 15) front).0;
      each = (and_parts (is_ascii_lowercase b && nat_le (length bs) 15) (list_all is_name_byte bs) h).1;
    }

pub name_word : (name : List ℕ) → is_name name ≡ true → IsWord name
name_word [] h = cc
name_word (b ∷ bs) h =
    let parts = named b bs h in
    record {
      some = omega arith;
      bytes = All-cons (λ c. 36 ≤ c) b bs (lowercase_above b parts.letter) (all_above is_name_byte bs name_byte_above parts.each);
    }

pub vector_word : (vec : List ℕ) → IsWord (vector_text vec)
vector_word [] = record { some = omega arith; bytes = All-cons (λ b. 36 ≤ b) 45 [] (omega arith) (All-nil (λ b. 36 ≤ b)) }
vector_word (d ∷ ds) = record {
  some = omega arith;
  bytes = All-map (λ b. 36 ≤ b) (λ x. 48 + x) (d ∷ ds) (λ k e l. omega arith);
}

pub length_vector : (vec : List ℕ) → length (vector_text vec) ≤ length vec + 1
length_vector [] = omega arith
length_vector (d ∷ ds) = omega (arith, length-map (d ∷ ds) (λ x. 48 + x))
