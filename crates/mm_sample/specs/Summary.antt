-- The summary of what a job writes.
use Rattle.std.specs.Prelude.{ℕ, ◌-◌, ◌≡◌, false, List, [], ◌∷◌, ◌++◌, All, length, take, codes, slice_get, Some, if◌then◌else◌}
use Rattle.std.specs.Fmt.{decimal}
use Rattle.std.specs.List.{slice_split}
use Rattle.std.specs.Str.{bytes_eq}
use Rattle.mm_lines.specs.Lines.{is_newline}
use Rattle.mm_lines.specs.Tokens.{tokens}
use Rattle.mm_tree.specs.TreeText.{spaced, text_of_lines}

-- The bytes are one line or more, each ended by a newline.
abbrev pub AreLines : List ℕ → Type 0
AreLines bytes = slice_get bytes (length bytes - 1) ≡ Some 10

-- The lines of such bytes.
abbrev pub lines_in : List ℕ → List (List ℕ)
lines_in bytes = slice_split is_newline (take (length bytes - 1) bytes)

-- A line has no newline in it.
abbrev pub HasNoNewline : List ℕ → Type 0
HasNoNewline line = All (λ b. is_newline b ≡ false) line

-- Where lines are written, each with a newline at its end, these are the lines of what is written.
abbrev pub WrittenLinesAreFound : Type 0
WrittenLinesAreFound =
    (line : List ℕ) (lines : List (List ℕ)) → All HasNoNewline (line ∷ lines)
    → AreLines (text_of_lines (line ∷ lines)) × (lines_in (text_of_lines (line ∷ lines)) ≡ line ∷ lines)

abbrev pub first_line : List (List ℕ) → List ℕ
first_line [] = []
first_line (line ∷ lines) = line

abbrev pub last_line : List (List ℕ) → List ℕ
last_line [] = []
last_line (line ∷ []) = line
last_line (line ∷ next ∷ lines) = last_line (next ∷ lines)

-- `least W COUNT`
abbrev pub least_line : List ℕ → ℕ → List ℕ
least_line weight count = spaced (codes "least" ∷ weight ∷ decimal count ∷ [])

-- A line of these tokens in short: of `least W NAMES` the number of names stands in their place, and every other line is as it is.
abbrev pub shortened : (line : List ℕ) → List (List ℕ) → List ℕ
shortened line (word ∷ weight ∷ names) = if bytes_eq word (codes "least") then least_line weight (length names) else line
shortened line words = line

abbrev pub short_line : List ℕ → List ℕ
short_line line = shortened line (tokens line)

-- `answers K`, `first A` and `last B`: the number of lines, and the first and the last one in short.
unfoldable pub summary : List ℕ → List ℕ
summary bytes =
    let lines = lines_in bytes in
    text_of_lines ((codes "answers " ++ decimal (length lines)) ∷ (codes "first " ++ short_line (first_line lines))
    ∷ (codes "last " ++ short_line (last_line lines)) ∷ [])
