-- Numbers in decimal digits.
use Rattle.std.specs.Prelude.{ℕ, ℤ, pos, neg_ℤ, Bool, ◌&&◌, nat_le, List, [], ◌∷◌, length, Option, Some, None, if◌then◌else◌, ◌==◌}
use Rattle.std.specs.Char.{is_ascii_digit}
use Rattle.std.specs.List.{list_all}
use Rattle.std.specs.Str.Parse.{digits_value}

-- 1 to `most` digits
abbrev pub is_number : ℕ → List ℕ → Bool
is_number most bytes = nat_le 1 (length bytes) && nat_le (length bytes) most && list_all is_ascii_digit bytes

-- the number that 1 to `most` digits spell
abbrev pub number_of : ℕ → List ℕ → Option ℕ
number_of most bytes = if is_number most bytes then Some (digits_value 10 bytes) else None

-- A count or a place is 1 to 9 digits.
abbrev pub u32_of : List ℕ → Option ℕ
u32_of bytes = number_of 9 bytes

-- a number with a sign put to it, if there is one
abbrev pub signed : (ℕ → ℤ) → Option ℕ → Option ℤ
signed f None = None
signed f (Some n) = Some (f n)

-- A weight is 1 to 18 digits, after a `-` or not.
abbrev pub i64_of : List ℕ → Option ℤ
i64_of [] = None
i64_of (b ∷ bs) = if b == 45 then signed (λ n. neg_ℤ (pos n)) (number_of 18 bs) else signed pos (number_of 18 (b ∷ bs))
