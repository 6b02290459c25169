-- Between code and definitions: what a job has written of the lines that it has taken, whatever comes after them.
use Rattle.std.specs.Prelude.{◌≡◌, ℕ, ◌≤◌, Bool, List, [], ◌∷◌, ◌++◌, length, drop, Option}
use Rattle.std.specs.Io.KnownBytes.{Appends}
use Rattle.mm_job.specs.Jobs.{Grew, GrewByFront}
use Rattle.mm_job.specs.State.JobStates.{come_to, end_by}
use Rattle.mm_job.specs.Output.{Ending, More, printed_all}
use Rattle.mm_job.specs.Settings.{Settings}
use Rattle.mm_job.specs.State.Standing.{written_at}
use Rattle.mm_job.specs.State.Stages.{lines_from_stage}
use Rattle.mm_job.specs.declared.stage.Stage.{Stage}
use Rattle.mm_job.specs.declared.state.JobState.{JobState}
use Rattle.mm_job.specs.declared.output_line.OutputLine.{OutputLine}
use Rattle.mm_lines.specs.Lines.{lines_of}
use Rattle.mm_lines.specs.Streams.{Stream}
use Rattle.mm_lines.specs.declared.line.Line.{Line}

-- The lines of a stream that were not handed out yet.
abbrev pub left : Stream → List Line
left s = drop s.handed (lines_of s.ended s.bytes)

-- A stream has handed out no more lines than it has.
abbrev pub IsWithin : Stream → Type 0
IsWithin s = s.handed ≤ length (lines_of s.ended s.bytes)

-- A job that has taken some lines has written what they say, whatever lines come after, and knows what they come to.
pub record Fed (settings : Settings) (old new : JobState) (lines lines_new : List Line) (held held_new : Option (List ℕ)) : Type 0 where
  pub outputs : List OutputLine
  pub grew : Appends held held_new (printed_all outputs)
  pub same : (e : Ending) (rs : List Line) → lines_from_stage settings old.stage e (lines ++ rs) ≡ outputs ++ lines_from_stage settings new.stage e (lines_new ++ rs)
  pub comes : new.status ≡ come_to old.status outputs

-- The same of one line, whatever lines come after it.
abbrev pub FedLine : Settings → (old new : JobState) → Line → (held held_new : Option (List ℕ)) → Type 0
FedLine settings old new r held held_new = (rs : List Line) → Fed settings old new (r ∷ rs) rs held held_new

-- What is written where a text ends at a stage, or has more bytes than are used.
abbrev pub last_lines : Settings → Stage → Bool → List OutputLine
last_lines settings stage over = lines_from_stage settings stage (end_by over) []

-- The same as text.
abbrev pub last_text : Settings → Stage → Bool → List ℕ
last_text settings stage over = printed_all (last_lines settings stage over)

-- What a sink holds grew by what a piece more settles of a text.
abbrev pub GrewByPiece : (held held_new : Option (List ℕ)) → (settings : Settings) → (text piece : List ℕ) → Type 0
GrewByPiece held held_new settings text piece = Grew held held_new (written_at More settings text) (written_at More settings (text ++ piece))

-- What a sink holds grew by a front of what is written of a text with a piece more, whatever its ending.
abbrev pub GrewByFrontOfPiece : (held held_new : Option (List ℕ)) → (settings : Settings) → (text piece : List ℕ) → Type 0
GrewByFrontOfPiece held held_new settings text piece =
    (e : Ending) → GrewByFront held held_new (written_at More settings text) (written_at e settings (text ++ piece))
