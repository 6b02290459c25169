-- What one step of a run says of its parts.
use Rattle.std.proofs.Common.{◌≡◌, ℕ, Bool, Ok, ap}
use Rattle.std.specs.declared.result.Result.{Result}
use Rattle.mm_job.specs.Jobs.{goes_on}
use Rattle.mm_job.specs.declared.progress.JobFault.{JobFault}
use Rattle.mm_job.specs.declared.progress.Progress.{Progress}
use Rattle.mm_base.specs.declared.status.Status.{Status}
use Rattle.mm_base.specs.declared.status.Status.TheVariants as ends
use Rattle.mm_cli.specs.declared.reading.ReadStep.{ReadStep}
use Rattle.mm_cli.specs.declared.reading.ReadStep.TheVariants as step

status_in : ReadStep → Status
status_in (step.Stop s) = s
status_in x = ends.Done

pub stop_is : (s t : Status) → step.Stop s ≡ step.Stop t → s ≡ t
unfolding status_in
stop_is s t e = ap status_in e

count_in : ReadStep → ℕ
count_in (step.More n) = n
count_in x = 0

pub more_is : (m n : ℕ) → step.More m ≡ step.More n → m ≡ n
unfolding count_in
more_is m n e = ap count_in e

-- an answer of `feed`, and whether the job goes on with it
abbrev pub more_ok : Progress → Result Progress JobFault
more_ok p = Ok p

abbrev pub more_goes_on : Progress → Bool
more_goes_on p = goes_on (Ok p)
