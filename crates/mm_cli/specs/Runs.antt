-- What a run of a job owes to its source and its sink.
use Rattle.std.specs.Prelude.{◌≡◌, ◌≤◌, ◌⊎◌, ℕ, ◌+◌, true, List, ◌++◌, length, IfSome}
use Rattle.std.specs.declared.option.Option.{Option}
use Rattle.std.specs.Io.KnownBytes.{Appends, Consumes, IsAtEnd}
use Rattle.mm_base.specs.Causes.{GrowsByFront}
use Rattle.mm_base.specs.declared.status.Status.{Status}
use Rattle.mm_base.specs.declared.status.Status.TheVariants.{Done, Refused, EditRefused, ReadFault, WriteFault, NoMemory}
use Rattle.mm_lines.specs.Lines.{most_bytes}
use Rattle.mm_job.specs.Jobs.{begins_refused}
use Rattle.mm_job.specs.declared.progress.JobFault.{JobFault}
use Rattle.mm_job.specs.declared.progress.JobFault.TheVariants as fault
use Rattle.mm_job.specs.declared.progress.JobFault.TheVariants.{Write}
use Rattle.mm_job.specs.Output.{output, settled_output, settled_lines, end_of}
use Rattle.mm_job.specs.Settings.{Settings}

-- The run came to the end of its job.
abbrev pub IsEnd : Status → Type 0
IsEnd s = (s ≡ Done) ⊎ (s ≡ Refused) ⊎ (s ≡ EditRefused)

-- The run was cut short.
abbrev pub IsCut : Status → Type 0
IsCut s = (s ≡ ReadFault) ⊎ (s ≡ WriteFault) ⊎ (s ≡ NoMemory)

-- The status of a job that stops
abbrev pub cut : JobFault → Status
cut Write = WriteFault
cut fault.NoMemory = NoMemory

-- What was taken is enough: nothing is left, or a settled line refuses the header, or it is one byte more than is used.
abbrev pub IsEnough : Settings → List ℕ → Option (List ℕ) → Type 0
IsEnough settings taken left = IsAtEnd left ⊎ (begins_refused (settled_lines taken settings) ≡ true) ⊎ (length taken ≡ most_bytes + 1)

-- The job that the source had left was answered: the sink grew by its output, and the status is its end.
pub record Answers (settings : Settings) (left left_new held held_new : Option (List ℕ)) (status : Status) : Type 0 where
  pub grew : IfSome left (λ text. Appends held held_new (output text settings))
  pub ended : IfSome left (λ text. status ≡ end_of text settings)
  pub read : (taken : List ℕ) × Consumes left left_new taken × IsEnough settings taken left_new

-- A read failed: the sink grew by what is settled of the bytes that were taken.
abbrev pub Stops : Settings → Option (List ℕ) → Option (List ℕ) → Option (List ℕ) → Option (List ℕ) → Type 0
Stops settings left left_new held held_new =
    (taken : List ℕ) × Consumes left left_new taken × Appends held held_new (settled_output taken settings)

-- The sink grew by a front of the output of the job that the source had left.
abbrev pub WritesFront : Settings → Option (List ℕ) → Option (List ℕ) → Option (List ℕ) → Type 0
WritesFront settings left held held_new = IfSome left (λ text. GrowsByFront held held_new (output text settings))

-- A read asks for at most so many bytes.
abbrev pub most_asked : ℕ
most_asked = 8192

-- Of the bytes that were taken, all but those of the last read were answered: what is settled of them was written, and maybe more.
pub record Streams (settings : Settings) (left left_new held held_new : Option (List ℕ)) : Type 0 where
  pub before : List ℕ
  pub last : List ℕ
  pub took : Consumes left left_new (before ++ last)
  pub asked : length last ≤ most_asked
  pub more : List ℕ
  pub wrote : Appends held held_new (settled_output before settings ++ more)

-- What a run of a job owes: it comes to the end of the job or is cut short, and by its status the sink has grown.
pub record Ran (settings : Settings) (left left_new held held_new : Option (List ℕ)) (status : Status) : Type 0 where
  pub ends : IsEnd status ⊎ IsCut status
  pub answers : IsEnd status → Answers settings left left_new held held_new status
  pub stops : status ≡ ReadFault → Stops settings left left_new held held_new
  pub front : IsCut status → WritesFront settings left held held_new
  pub streams : IsCut status → Streams settings left left_new held held_new
