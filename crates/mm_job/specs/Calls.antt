-- What the calls of a job owe to their callers.
use Rattle.std.specs.Prelude.{ℕ, ◌+◌, ◌≤◌, List, Option, OnOk, OnErr}
use Rattle.std.specs.declared.result.Result.{Result}
use Rattle.mm_job.specs.Jobs.{Grew, GrewByFront, HasJobCause}
use Rattle.mm_job.specs.declared.progress.JobFault.{JobFault}

-- What one output has after another was written, or a front of that where the call fails; and a write that failed was counted.
pub record Writes {S T : Type 0} (held : S → Option (List ℕ)) (faults : S → ℕ) (out out_new : S) (before now : List ℕ) (result : Result T JobFault) : Type 0 where
  pub wrote : OnOk result (Grew (held out) (held out_new) before now)
  pub front : OnErr result (GrewByFront (held out) (held out_new) before now)
  pub cause : HasJobCause (faults out) (faults out_new) result

-- The steps that were taken are at most the work of one text less that of another.
abbrev pub SpendsOnText : (steps steps_new : ℕ) → (before now : ℕ) → Type 0
SpendsOnText steps steps_new before now = steps_new + before ≤ steps + now
