-- The tokens of a line, so many as a form has, and numbers.
use Rattle.std.specs.Prelude.{ℕ, Bool, true, false, nat_le, List, [], ◌∷◌, length, Option, Some, None}
use Rattle.mm_lines.specs.Numbers.{u32_of}

infixl 10 ◌>>=◌
abbrev pub ◌>>=◌ : {A B : Type 0} → Option A → (A → Option B) → Option B
None >>= g = None
(Some x) >>= g = g x

abbrev pub only_if : {A : Type 0} → Bool → A → Option A
only_if false x = None
only_if true x = Some x

abbrev pub is_end : List (List ℕ) → Bool
is_end [] = true
is_end (t ∷ ts) = false

-- exactly one token, two, four or five
abbrev pub one_of : List (List ℕ) → Option (List ℕ)
one_of (a ∷ []) = Some a
one_of ts = None

abbrev pub two_of : List (List ℕ) → Option (List ℕ × List ℕ)
two_of (a ∷ b ∷ []) = Some (a, b)
two_of ts = None

abbrev pub four_of : List (List ℕ) → Option (List ℕ × List ℕ × List ℕ × List ℕ)
four_of (a ∷ b ∷ c ∷ d ∷ []) = Some (a, b, c, d)
four_of ts = None

abbrev pub five_of : List (List ℕ) → Option (List ℕ × List ℕ × List ℕ × List ℕ × List ℕ)
five_of (a ∷ b ∷ c ∷ d ∷ e ∷ []) = Some (a, b, c, d, e)
five_of ts = None

-- the numbers that tokens spell, where each spells one
abbrev pub numbers_of : List (List ℕ) → Option (List ℕ)
numbers_of [] = Some []
numbers_of (t ∷ ts) = u32_of t >>= λ n. numbers_of ts >>= λ ns. Some (n ∷ ns)

-- numbers, where they are at most so many
abbrev pub at_most : ℕ → Option (List ℕ) → Option (List ℕ)
at_most most None = None
at_most most (Some ns) = only_if (nat_le (length ns) most) ns
