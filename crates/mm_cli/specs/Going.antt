-- How far a run has come.
use Rattle.std.specs.Prelude.{◌≡◌, ◌⊎◌, ℕ, ◌+◌, ◌<◌, ◌≤◌, true, List, length}
use Rattle.std.specs.declared.option.Option.{Option}
use Rattle.std.specs.Io.KnownBytes.{Appends, Consumes, IsAtEnd}
use Rattle.mm_lines.specs.Lines.{most_bytes}
use Rattle.mm_job.specs.Jobs.{JobValue}
use Rattle.mm_job.specs.Output.{settled_output}
use Rattle.mm_job.specs.Settings.{Settings}
use Rattle.mm_cli.specs.Runs.{Ran}
use Rattle.mm_cli.specs.declared.reading.ReadStep.{ReadStep}
use Rattle.mm_cli.specs.declared.reading.ReadStep.TheVariants as step

-- Where a run began: what the source had left, and what the sink held.
pub record Start : Type 0 where
  pub left : Option (List ℕ)
  pub held : Option (List ℕ)

-- The text was taken from what the source had left, it is at most one byte more than is used, and what is settled of it was written.
pub record SoFar (settings : Settings) (left left_now held held_now : Option (List ℕ)) (text : List ℕ) : Type 0 where
  pub took : Consumes left left_now text
  pub size : length text ≤ most_bytes + 1
  pub wrote : Appends held held_now (settled_output text settings)

-- A job that goes on is as far as its text.
abbrev pub IsFar : Start → (left_now held_now : Option (List ℕ)) → JobValue → Type 0
IsFar start left_now held_now job = SoFar job.settings start.left left_now start.held held_now job.text

-- The job took so many bytes more, and goes on.
pub record TookMore (start : Start) (left_now held_now : Option (List ℕ)) (old new : JobValue) (n : ℕ) : Type 0 where
  pub count : length new.text ≡ length old.text + n
  pub some : 0 < n
  pub settings : new.settings ≡ old.settings
  pub live : new.live ≡ true
  pub far : IsFar start left_now held_now new

-- What a read came to: at the end of the source nothing has changed; or some bytes were taken and what they settle was written;
-- or the run has ended.
abbrev pub CameTo : Start → (left_now held_now : Option (List ℕ)) → (old new : JobValue) → ReadStep → Type 0
CameTo start left_now held_now old new step.End = (new ≡ old) × IsAtEnd left_now × IsFar start left_now held_now old
CameTo start left_now held_now old new (step.More count) = TookMore start left_now held_now old new count
CameTo start left_now held_now old new (step.Stop status) = Ran old.settings start.left left_now start.held held_now status

-- All that is used of the source was taken: nothing is left, or it is one byte more than is used.
pub record IsRead (settings : Settings) (left left_now held held_now : Option (List ℕ)) (job : JobValue) : Type 0 where
  pub far : SoFar settings left left_now held held_now job.text
  pub stop : IsAtEnd left_now ⊎ (length job.text ≡ most_bytes + 1)
  pub same : job.settings ≡ settings
