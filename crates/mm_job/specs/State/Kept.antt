-- Between code and definitions: the fields of a job, and the facts that keep them.
use Rattle.std.specs.Prelude.{◌≡◌, ◌≤◌, true, length}
use Rattle.mm_lines.specs.Lines.{most_bytes}
use Rattle.mm_job.specs.Jobs.{JobValue}
use Rattle.mm_job.specs.State.Standing.{IsRead, Stands}
use Rattle.mm_job.specs.declared.job.Job.TheInside.{Inside}

-- what callers see of the fields
abbrev pub state_of : Inside → JobValue
state_of j = record { text = j.framer.bytes; settings = j.settings; live = j.live }

-- A job that goes on has taken all lines of its text, which is not too long, and stands for it.
pub record IsLive (j : Inside) : Type 0 where
  pub taken : j.taken ≡ length j.framer.bytes
  pub size : length j.framer.bytes ≤ most_bytes
  pub stream : IsRead j.framer
  pub stands : Stands j.settings j.framer.bytes j.state

abbrev pub IsJob : Inside → Type 0
IsJob j = j.live ≡ true → IsLive j
