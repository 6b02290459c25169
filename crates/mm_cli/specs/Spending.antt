-- How many steps a run may take.
use Rattle.std.specs.Prelude.{ℕ, ◌≡◌, ◌+◌, ◌≤◌, List, Some, None, IfSome}
use Rattle.std.specs.declared.option.Option.{Option}
use Rattle.mm_job.specs.Calls.{SpendsOnText}
use Rattle.mm_job.specs.Jobs.{JobValue}
use Rattle.mm_job.specs.Work.{bound_of, settled_work}
use Rattle.mm_job.specs.Settings.{Settings, spelled}
use Rattle.mm_cli.specs.Answers.{sample_job}
use Rattle.mm_cli.specs.Minors.{minor_settings}
use Rattle.mm_cli.specs.Words.{most_limit}
use Rattle.mm_cli.specs.declared.reading.ReadStep.{ReadStep}
use Rattle.mm_cli.specs.declared.reading.ReadStep.TheVariants as step
use Rattle.mm_cli.specs.declared.words.Command.{Command}
use Rattle.mm_cli.specs.declared.words.Command.TheVariants.{Run, Sample, Build, Dual, Minor, NotBuilt}

-- At most as many steps as the bound on the work of a job.
abbrev pub IsWithinBound : (text : List ℕ) → (settings : Settings) → (steps steps_new : ℕ) → Type 0
IsWithinBound text settings steps steps_new = steps_new ≤ steps + bound_of text settings

-- The same of the job that the source had left.
abbrev pub SpendsOnJob : (settings : Settings) → (left : Option (List ℕ)) → (steps steps_new : ℕ) → Type 0
SpendsOnJob settings left steps steps_new = IfSome left (λ text. IsWithinBound text settings steps steps_new)

-- What the words ask for takes its steps, and no others: a job those of its work, and a command without a job none.
abbrev pub Spends : Option Command → (left : Option (List ℕ)) → (steps steps_new : ℕ) → Type 0
Spends (Some (Run limit)) left steps steps_new = SpendsOnJob (spelled limit) left steps steps_new
Spends (Some (Sample s)) left steps steps_new = IsWithinBound (sample_job s) (spelled most_limit) steps steps_new
Spends (Some Build) left steps steps_new = steps_new ≡ steps
Spends (Some Dual) left steps steps_new = steps_new ≡ steps
Spends (Some (Minor m)) left steps steps_new = SpendsOnJob (minor_settings m) left steps steps_new
Spends (Some NotBuilt) left steps steps_new = steps_new ≡ steps
Spends None left steps steps_new = steps_new ≡ steps

-- ---- between code and definitions

-- At most the work of the job that the source had left, less what is settled of a text.
abbrev pub SpendsOnRest : (settings : Settings) → (left : Option (List ℕ)) → (text : List ℕ) → (steps steps_new : ℕ) → Type 0
SpendsOnRest settings left text steps steps_new = IfSome left (λ all. SpendsOnText steps steps_new (settled_work text settings) (bound_of all settings))

-- The steps of one read.
abbrev pub SpendsOnRead : (left : Option (List ℕ)) → (old new : JobValue) → (steps steps_new : ℕ) → ReadStep → Type 0
SpendsOnRead left old new steps steps_new step.End = steps_new ≡ steps
SpendsOnRead left old new steps steps_new (step.More count) =
    SpendsOnText steps steps_new (settled_work old.text old.settings) (settled_work new.text old.settings)
SpendsOnRead left old new steps steps_new (step.Stop status) = SpendsOnRest old.settings left old.text steps steps_new
