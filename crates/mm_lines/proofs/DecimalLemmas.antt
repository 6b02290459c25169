-- One more digit of a number.
use Rattle.std.proofs.Common.{◌≡◌, ℕ, ◌+◌, ◌*◌, ◌^◌, ◌<◌, ◌≤◌, Bool, true, false, List, length, get_or, refl, sym, arith, add-one, lit<}
use Rattle.std.specs.Char.{is_ascii_digit, digit_value}
use Rattle.std.specs.Prelude.{◌&&◌, nat_le}
use Rattle.std.specs.List.{list_all}
use Rattle.std.proofs.lemmas.Bool.{leb-true}
use Rattle.mm_lines.specs.Numbers.{is_number}
use Rattle.std.proofs.lemmas.List.Folds.{list_all_at}
use Rattle.std.proofs.lemmas.Str.{digit_value_digit}
use Rattle.std.proofs.lemmas.Bool.Decides.{nat_tests}
use Rattle.std.proofs.Math.Nat.{pow-suc, pow-le-pow_right}

digit_at : (b : Bool) (ds : List ℕ) (i : ℕ) → b ≡ is_ascii_digit (get_or ds i 0) → i < length ds → list_all is_ascii_digit ds ≡ true → is_ascii_digit (get_or ds i 0) ≡ true
digit_at true ds i e h all = sym e
digit_at false ds i e h all = let no = list_all_at is_ascii_digit ds i 0 h (sym e) in cc

in_range : (c : ℕ) → is_ascii_digit c ≡ true → (48 ≤ c) × (c ≤ 57)
in_range c h = (grind (arith, nat_tests), grind (arith, nat_tests))

pub digit_is : (ds : List ℕ) (i : ℕ) → i < length ds → list_all is_ascii_digit ds ≡ true
    → (digit_value (get_or ds i 0) + 48 ≡ get_or ds i 0) × (get_or ds i 0 ≤ 57)
digit_is ds i h all =
    let r = in_range (get_or ds i 0) (digit_at (is_ascii_digit (get_or ds i 0)) ds i refl h all) in
    (digit_value_digit (get_or ds i 0) r, r.1)

pub value_step : (n d i : ℕ) → n < 10 ^ i → d ≤ 9 → n * 10 + d < 10 ^ (i + 1)
value_step n d i h small = rw (add-one, pow-suc) (omega (arith, h, small))

pub value_fits : (n i : ℕ) → n < 10 ^ i → i ≤ 17 → n < 10 ^ 17
value_fits n i h small = omega (arith, h, pow-le-pow_right {n = 10} (lit< tt) {i = i} {j = 17} small)

second_of : (a b c : Bool) → (a && b && c) ≡ true → b ≡ true
second_of true true c h = refl
second_of true false c h = cc
second_of false b c h = cc

pub digits_bound : (most : ℕ) (bytes : List ℕ) (n : ℕ) → is_number most bytes ≡ true → n < 10 ^ length bytes → n < 10 ^ most
digits_bound most bytes n h below =
    let few = leb-true (length bytes) most (second_of (nat_le 1 (length bytes)) (nat_le (length bytes) most) (list_all is_ascii_digit bytes) h) in
    omega (arith, below, pow-le-pow_right {n = 10} (lit< tt) {i = length bytes} {j = most} few)
