-- Between code and definitions: the steps that were taken are within the work of the lines that were taken.
use Rattle.std.specs.Prelude.{◌≡◌, ◌≤◌, ℕ, ◌+◌, List, ◌++◌}
use Rattle.mm_lines.specs.declared.line.Line.{Line}

-- What some lines left to do before, and what others leave after, whatever lines come after both: the steps that were taken are within
-- the difference.
pub record Spends (before after : List Line → ℕ) (lines lines_new : List Line) (steps steps_new : ℕ) : Type 0 where
  pub work : ℕ
  pub within : steps_new ≤ steps + work
  pub same : (rs : List Line) → before (lines ++ rs) ≡ work + after (lines_new ++ rs)

-- The steps that were taken are within the work of some lines and those after them.
abbrev pub SpendsAtMost : (List Line → ℕ) → List Line → (steps steps_new : ℕ) → Type 0
SpendsAtMost before lines steps steps_new = (rs : List Line) → steps_new ≤ steps + before (lines ++ rs)
