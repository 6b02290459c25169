-- Between code and definitions: what the state of a job owes to the text that it has taken.
use Rattle.std.specs.Prelude.{◌≡◌, ℕ, ◌+◌, false, List, ◌++◌, length, None}
use Rattle.mm_base.specs.declared.status.Status.{Status}
use Rattle.mm_job.specs.State.JobStates.{come_to}
use Rattle.mm_job.specs.Output.{Ending, More, Over, printed_all, status_of, written_lines}
use Rattle.mm_job.specs.State.Stages.{IsKeptAt, lines_from_stage, work_from_stage}
use Rattle.mm_job.specs.Settings.{Settings}
use Rattle.mm_job.specs.Work.{work}
use Rattle.mm_job.specs.declared.state.JobState.{JobState}
use Rattle.mm_lines.specs.Lines.{lines_of, settled}
use Rattle.mm_lines.specs.Streams.{Stream}
use Rattle.mm_lines.specs.declared.line.Line.{Line}

-- What is written for the settled lines of a text, with this ending.
abbrev pub written_at : Ending → Settings → List ℕ → List ℕ
written_at e settings text = printed_all (written_lines settings e (settled text))

-- The work of the settled lines of a text.
abbrev pub work_at : Settings → List ℕ → ℕ
work_at settings text = work settings (settled text)

-- The status of a text that has more bytes than are used.
abbrev pub status_over : Settings → List ℕ → Status
status_over settings text = status_of (written_lines settings Over (settled text))

-- All lines of a stream that goes on were handed out.
pub record IsRead (s : Stream) : Type 0 where
  pub open_ended : s.ended ≡ false
  pub all : s.handed ≡ length (lines_of false s.bytes)

-- Whatever lines come after those of the text, what is said of all is what was said so far, and then what the state tells; and the
-- state knows what was said so far comes to; and so is the work.
pub record Stands (settings : Settings) (text : List ℕ) (state : JobState) : Type 0 where
  pub kept : IsKeptAt state.stage
  pub rest : (e : Ending) (rs : List Line) → written_lines settings e (settled text ++ rs) ≡ written_lines settings More (settled text) ++ lines_from_stage settings state.stage e rs
  pub works : (rs : List Line) → work settings (settled text ++ rs) ≡ work_at settings text + work_from_stage settings state.stage rs
  pub comes : state.status ≡ come_to None (written_lines settings More (settled text))
