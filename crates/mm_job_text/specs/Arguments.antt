-- The words of a line: its first token, and the others, which are its arguments.
use Rattle.std.specs.Prelude.{ℕ, Bool, false, ◌&&◌, ◌==◌, List, [], ◌∷◌, length, drop, Option, Some, None}
use Rattle.std.specs.Str.{bytes_eq}
use Rattle.mm_lines.specs.LineBytes.{bytes_of}
use Rattle.mm_lines.specs.Tokens.{tokens}
use Rattle.mm_lines.specs.declared.line.Line.{Line}
use Rattle.mm_lines.specs.declared.line.LineText.{LineText}
use Rattle.mm_lines.specs.declared.line.LineText.TheVariants.{Whole, TooLong}
use Rattle.mm_job_text.specs.declared.refusal.Refusal.{Refusal}
use Rattle.mm_job_text.specs.declared.refusal.Refusal.TheVariants as refusal

-- The tokens after the first.
abbrev pub args : Line → List (List ℕ)
args r = drop 1 (tokens (bytes_of r))

abbrev pub first_is : List ℕ → List (List ℕ) → Bool
first_is word [] = false
first_is word (t ∷ ts) = bytes_eq word t

-- Whether a line's first token is this word. A line that is too long has no tokens.
abbrev pub begins : List ℕ → Line → Bool
begins word r = first_is word (tokens (bytes_of r))

-- Whether a line's only token is this word.
abbrev pub is_word : List ℕ → Line → Bool
is_word word r = begins word r && length (args r) == 0

-- Exactly one token, two or three.
abbrev pub one_of : List (List ℕ) → Option (List ℕ)
one_of (a ∷ []) = Some a
one_of ts = None

abbrev pub two_of : List (List ℕ) → Option (List ℕ × List ℕ)
two_of (a ∷ b ∷ []) = Some (a, b)
two_of ts = None

abbrev pub three_of : List (List ℕ) → Option (List ℕ × List ℕ × List ℕ)
three_of (a ∷ b ∷ c ∷ []) = Some (a, b, c)
three_of ts = None

-- the refusal of a line that is too long
abbrev pub too_long : LineText → ℕ → Option Refusal
too_long (Whole bytes) n = None
too_long TooLong n = Some (refusal.LineTooLong n)
