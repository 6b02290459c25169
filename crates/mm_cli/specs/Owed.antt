-- What the tool owes to its source and its sink, by what the words ask for.
use Rattle.std.specs.Prelude.{ℕ, Bool, true, false, List, Some, None}
use Rattle.std.specs.declared.option.Option.{Option}
use Rattle.mm_base.specs.declared.status.Status.{Status}
use Rattle.mm_job.specs.Settings.{spelled}
use Rattle.mm_cli.specs.Answers.{Writes, build, dual, not_built, sample, usage}
use Rattle.mm_cli.specs.Minors.{minor_settings}
use Rattle.mm_cli.specs.Runs.{Ran}
use Rattle.mm_cli.specs.Whole.{AnswersText}
use Rattle.mm_cli.specs.declared.words.Command.{Command}
use Rattle.mm_cli.specs.declared.words.Command.TheVariants.{Run, Sample, Build, Dual, Minor, NotBuilt}

-- `run` and `minor` answer the job in the source while it is read; `build` and `dual` answer the text of the source at its end; the others read nothing.
abbrev pub Owed : Option Command → (left left_new held held_new : Option (List ℕ)) → Status → Type 0
Owed (Some (Run limit)) left left_new held held_new status = Ran (spelled limit) left left_new held held_new status
Owed (Some (Sample s)) left left_new held held_new status = Writes (sample s) held held_new status
Owed (Some Build) left left_new held held_new status = AnswersText build left left_new held held_new status
Owed (Some Dual) left left_new held held_new status = AnswersText dual left left_new held held_new status
Owed (Some (Minor m)) left left_new held held_new status = Ran (minor_settings m) left left_new held held_new status
Owed (Some NotBuilt) left left_new held held_new status = Writes not_built held held_new status
Owed None left left_new held held_new status = Writes usage held held_new status

-- Whether what the words ask for stands in the source.
abbrev pub reads : Option Command → Bool
reads (Some (Run limit)) = true
reads (Some (Sample s)) = false
reads (Some Build) = true
reads (Some Dual) = true
reads (Some (Minor m)) = true
reads (Some NotBuilt) = false
reads None = false
