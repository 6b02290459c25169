-- Where a framer stands in its stream, and which lines are left from there.
use Rattle.std.specs.Prelude.{◌≡◌, ℕ, ◌+◌, ◌<◌, ◌≤◌, Bool, true, false, not, ◌&&◌, ◌||◌, List, [], ◌∷◌, ◌++◌, length, drop, slice_index, if◌then◌else◌}
use Rattle.std.specs.List.{slice_split}
use Rattle.std.specs.Str.Lines.{strip_carriage_return}
use Rattle.mm_lines.specs.Lines.{is_newline, is_too_long, is_passed_over, line_of, closed, numbered}
use Rattle.mm_lines.specs.declared.line.Line.{Line}
use Rattle.mm_lines.specs.declared.place.Place.{Place}
use Rattle.mm_lines.specs.declared.place.Piece.{Piece}

-- No newline stands from place i up to place j
abbrev pub NoNewline : List ℕ → ℕ → ℕ → Type 0
NoNewline bytes i j = (k : ℕ) → i ≤ k → k < j → is_newline (slice_index bytes k) ≡ false

-- A place is in the stream, before what was searched, and a line is begun after each newline only.
pub record IsPlace (bytes : List ℕ) (p : Place) : Type 0 where
  pub order : p.start ≤ p.searched
  pub within : p.searched ≤ length bytes
  pub clean : NoNewline bytes p.start p.searched
  pub number : p.number ≤ p.start + 1

-- The lines after the first of these pieces
abbrev pub after_first : Bool → ℕ → List (List ℕ) → List Line
after_first ended number [] = []
after_first ended number (piece ∷ more) = numbered (number + 1) (closed ended more)

-- The lines from a place on. The one there is passed where it was handed out already.
abbrev pub lines_from : Bool → Place → List ℕ → List Line
lines_from ended p bytes = if p.passing
    then after_first ended p.number (slice_split is_newline (drop p.start bytes))
    else numbered p.number (closed ended (slice_split is_newline (drop p.start bytes)))

-- A stream that has ended doesn't go on.
abbrev pub MayEnd : Bool → Bool → List ℕ → Type 0
MayEnd ended end more = ended ≡ true → (end ≡ true) × (more ≡ [])

-- From the first place on stand these lines, and then those from the second place on, however the stream goes on.
abbrev pub Goes : Bool → List ℕ → Place → List Line → Place → Type 0
Goes ended bytes p found q = (end : Bool) (more : List ℕ) → MayEnd ended end more
    → lines_from end p (bytes ++ more) ≡ found ++ lines_from end q (bytes ++ more)

-- The line of a piece, if it was not handed out already
abbrev pub found_in : Piece → List Line
found_in piece = if piece.passed then [] else line_of piece.number piece.bytes.now

-- A piece is handed out where it is a line that was not yet.
abbrev pub is_handed_out : Piece → Bool
is_handed_out piece = not piece.passed && (is_too_long piece.bytes.now || not (is_passed_over (strip_carriage_return piece.bytes.now)))

-- the number of the line at a place, and one more where that line was handed out
abbrev pub begun : Place → ℕ
begun p = if p.passing then p.number + 1 else p.number
