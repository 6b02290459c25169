-- The names of joins are names.
use Rattle.std.proofs.Common.{◌≡◌, ℕ, ◌+◌, ◌^◌, ◌%◌, ◌<◌, ◌≤◌, Bool, true, false, List, [], ◌∷◌, ◌++◌, length, refl, ap, ◌∙◌, arith}
use Rattle.std.specs.Prelude.{◌||◌, ◌==◌, nat_le}
use Rattle.std.specs.Char.{is_ascii_digit, is_ascii_lowercase}
use Rattle.std.specs.Fmt.{decimal}
use Rattle.std.specs.List.{list_all}
use Rattle.std.proofs.lemmas.Bool.{le-leb, and_from}
use Rattle.std.proofs.lemmas.Bool.Decides.{nat_tests}
use Rattle.std.proofs.lemmas.Fmt.{decimal_by_steps, length-decimal-le}
use Rattle.std.proofs.lemmas.List.Folds.{list_all-append}
use Rattle.mm_base.specs.Names.{is_name, is_name_byte}
use Rattle.mm_decomp.specs.BuiltTree.{join_name}

is_digit : (d : ℕ) → d < 10 → is_ascii_digit (48 + d) ≡ true
is_digit d h = grind (arith, nat_tests)

digit_is_name_byte : (b : ℕ) → is_ascii_digit b ≡ true → is_name_byte b ≡ true
digit_is_name_byte b e = ap (λ x. is_ascii_lowercase b || x || b == 95) e ∙ go (is_ascii_lowercase b) (b == 95)
  where
    go : (a c : Bool) → (a || true || c) ≡ true
    go true c = refl
    go false c = refl

one_digit : (n : ℕ) → n < 10 → list_all is_name_byte ((48 + n) ∷ []) ≡ true
one_digit n h = and_from (is_name_byte (48 + n)) true (digit_is_name_byte (48 + n) (is_digit n h)) refl

more_digits : (n : ℕ) (ds : List ℕ) → 10 ≤ n → list_all is_name_byte ds ≡ true → list_all is_name_byte (ds ++ (48 + n % 10) ∷ []) ≡ true
more_digits n ds h all =
    list_all-append is_name_byte ds ((48 + n % 10) ∷ [])
    ∙ and_from (list_all is_name_byte ds) (list_all is_name_byte ((48 + n % 10) ∷ [])) all (one_digit (n % 10) (omega arith))

pub join_name_is_name : (n : ℕ) → n < 2 ^ 32 → is_name (join_name n) ≡ true
join_name_is_name n h =
    and_from (nat_le (length (decimal n)) 15) (list_all is_name_byte (decimal n))
    (le-leb (length (decimal n)) 15 (length-decimal-le 15 n (omega arith) (omega arith) (omega arith)))
    (decimal_by_steps (λ n ds. list_all is_name_byte ds ≡ true) one_digit more_digits n (omega arith))
