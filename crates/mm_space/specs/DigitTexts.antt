-- What a text of digits says: digits, a vector, a list of vectors, or nothing where the text has not the form.
use Rattle.std.specs.Prelude.{ℕ, ◌+◌, ◌-◌, Bool, ◌&&◌, ◌==◌, nat_le, nat_lt, List, [], ◌∷◌, length, map, codes, Option, Some, None, if◌then◌else◌}
use Rattle.std.specs.List.{list_all, slice_split}
use Rattle.std.specs.Str.{bytes_eq}
use Rattle.mm_field.specs.declared.Field.{Field}
use Rattle.mm_field.specs.Digits.{order}

-- an ASCII digit of the field
abbrev pub is_digit : Field → ℕ → Bool
is_digit f b = nat_le 48 b && nat_lt b (48 + order f)

-- the digit that an ASCII digit shows
abbrev pub digit_of : ℕ → ℕ
digit_of b = b - 48

-- one digit or more, or `-` for none
abbrev pub digits_of : Field → List ℕ → Option (List ℕ)
digits_of f t =
    if bytes_eq t (codes "-") then Some []
    else if nat_le 1 (length t) && list_all (is_digit f) t then Some (map digit_of t) else None

-- a vector: at most 18 digits
abbrev pub vector_of : Field → List ℕ → Option (List ℕ)
vector_of f t = if nat_le (length t) 18 then digits_of f t else None

abbrev pub with_vector : Option (List ℕ) → Option (List (List ℕ)) → Option (List (List ℕ))
with_vector None vs = None
with_vector (Some v) None = None
with_vector (Some v) (Some vs) = Some (v ∷ vs)

-- a vector from each of some texts
abbrev pub each_vector : Field → List (List ℕ) → Option (List (List ℕ))
each_vector f [] = Some []
each_vector f (t ∷ ts) = with_vector (vector_of f t) (each_vector f ts)

abbrev pub is_slash : ℕ → Bool
is_slash b = b == 47

-- 1 to 6 vectors with `/` between them, or `.` for none
abbrev pub vectors_of : Field → List ℕ → Option (List (List ℕ))
vectors_of f t =
    if bytes_eq t (codes ".") then Some []
    else if nat_le (length (slice_split is_slash t)) 6 then each_vector f (slice_split is_slash t) else None
