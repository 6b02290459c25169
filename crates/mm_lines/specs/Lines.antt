-- The lines of a text.
use Rattle.std.specs.Prelude.{ℕ, ◌+◌, Bool, false, not, ◌||◌, ◌==◌, nat_le, nat_lt, List, [], ◌∷◌, ◌++◌, length, take, slice_index, if◌then◌else◌}
use Rattle.std.specs.List.{slice_split}
use Rattle.std.specs.Str.Lines.{strip_carriage_return}
use Rattle.mm_lines.specs.Tokens.{has_some, tokens}
use Rattle.mm_lines.specs.declared.TheConstants.{MOST_BYTES, TOO_LONG}
use Rattle.mm_lines.specs.declared.line.Line.{Line}
use Rattle.mm_lines.specs.declared.line.LineText.TheVariants.{Whole, TooLong}

-- A newline is the byte 10.
abbrev pub is_newline : ℕ → Bool
is_newline b = b == 10

-- A line of so many bytes or more is too long, whatever is in it.
abbrev pub is_too_long : List ℕ → Bool
is_too_long line = nat_le TOO_LONG (length line)

-- A line of blanks alone is passed over, and so is a comment, which begins with `#`.
abbrev pub is_passed_over : List ℕ → Bool
is_passed_over line = slice_index line 0 == 35 || not (has_some (tokens line))

-- a line that is not too long, unless it is passed over
abbrev pub kept_line : ℕ → List ℕ → List Line
kept_line number line = if is_passed_over line then [] else record { number = number; text = Whole line } ∷ []

-- What the bytes up to a newline say: a line that is too long, or the line without one `\r` at its end, unless it is passed over.
abbrev pub line_of : ℕ → List ℕ → List Line
line_of number bytes = if is_too_long bytes
    then record { number = number; text = TooLong } ∷ []
    else kept_line number (strip_carriage_return bytes)

-- The last of the pieces between newlines is a line where the text has ended, or where it is too long already.
abbrev pub closed : Bool → List (List ℕ) → List (List ℕ)
closed ended [] = []
closed ended (last ∷ []) = if ended || is_too_long last then last ∷ [] else []
closed ended (piece ∷ next ∷ more) = piece ∷ closed ended (next ∷ more)

-- The lines of some pieces, of which the first has this number. Every piece counts, those that are passed over too.
abbrev pub numbered : ℕ → List (List ℕ) → List Line
numbered number [] = []
numbered number (piece ∷ more) = line_of number piece ++ numbered (number + 1) more

-- The lines of a text that has ended, or of one that may go on.
unfoldable pub lines_of : Bool → List ℕ → List Line
lines_of ended text = numbered 1 (closed ended (slice_split is_newline text))

-- At most so many bytes of a text are used.
abbrev pub most_bytes : ℕ
most_bytes = MOST_BYTES

-- more bytes than are used
abbrev pub is_over : List ℕ → Bool
is_over text = nat_lt most_bytes (length text)

-- the lines of a text that may go on: those that a newline closes, and one that is too long already
unfoldable pub settled : List ℕ → List Line
settled text = lines_of false (take most_bytes text)

-- The lines of a whole text. Its end closes the last one, unless the text has more bytes than are used.
unfoldable pub lines : List ℕ → List Line
lines text = lines_of (not (is_over text)) (take most_bytes text)
