-- What is written grows with the text.
use Rattle.std.specs.Prelude.{◌≡◌, ◌≤◌, ℕ, List, ◌++◌}
use Rattle.mm_job.specs.Header.{header}
use Rattle.mm_job.specs.Output.{settled_output, output, end_of}
use Rattle.mm_job.specs.Settings.{Settings}
use Rattle.mm_job.specs.Work.{bound_of, settled_work}
use Rattle.mm_lines.specs.Fronts.{IsFront}
use Rattle.mm_lines.specs.Lines.{settled}
use Rattle.mm_job_text.specs.Readers.{Refused}
use Rattle.mm_job_text.specs.declared.refusal.Refusal.{Refusal}

-- What is settled in a text is a front of what is settled when it goes on, and of both outputs.
pub record Grows (settings : Settings) (a b : List ℕ) : Type 0 where
  pub settled : IsFront (settled_output a settings) (settled_output (a ++ b) settings)
  pub whole : IsFront (settled_output a settings) (output a settings)
  pub longer : IsFront (settled_output a settings) (output (a ++ b) settings)

-- A settled line of a text refuses its header.
abbrev pub IsRefused : Settings → List ℕ → Type 0
IsRefused settings a = (why : Refusal) × (header settings (settled a) ≡ Refused why)

-- Nothing that comes after a text matters.
pub record IsFinal (settings : Settings) (a b : List ℕ) : Type 0 where
  pub settled : settled_output (a ++ b) settings ≡ settled_output a settings
  pub whole : output a settings ≡ settled_output a settings
  pub longer : output (a ++ b) settings ≡ settled_output a settings
  pub status : end_of (a ++ b) settings ≡ end_of a settings

-- The work for what is settled never falls as a text goes on, and is within the bound of the text.
pub record WorkGrows (settings : Settings) (a b : List ℕ) : Type 0 where
  pub longer : settled_work a settings ≤ settled_work (a ++ b) settings
  pub whole : settled_work a settings ≤ bound_of a settings
