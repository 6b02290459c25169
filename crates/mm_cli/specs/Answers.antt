-- What each command answers that writes one answer at its end.
use Rattle.std.specs.Prelude.{◌≡◌, ◌⊎◌, ℕ, List, ◌++◌, codes, Ok, Err}
use Rattle.std.specs.declared.option.Option.{Option}
use Rattle.std.specs.declared.result.Result.{Result}
use Rattle.std.specs.Io.KnownBytes.{Appends}
use Rattle.mm_base.specs.Causes.{GrowsByFront}
use Rattle.mm_base.specs.declared.status.Status.{Status}
use Rattle.mm_base.specs.declared.status.Status.TheVariants.{Done, Refused, Usage, WriteFault, NoMemory}
use Rattle.mm_job.specs.Output.{output, end_of}
use Rattle.mm_job.specs.Settings.{spelled}
use Rattle.mm_sample.specs.SampleText.{sample_text}
use Rattle.mm_sample.specs.Summary.{summary}
use Rattle.mm_decomp.specs.BuildOutput.{build_output}
use Rattle.mm_decomp.specs.DualOutput.{dual_output}
use Rattle.mm_cli.specs.Runs.{IsCut}
use Rattle.mm_cli.specs.Words.{most_limit}
use Rattle.mm_cli.specs.declared.words.SampleNumbers.{SampleNumbers}

-- What is written, and how the run ends then.
pub record Answer : Type 0 where
  pub output : List ℕ
  pub status : Status

-- The line that refuses by these words.
abbrev pub refusal_line : List ℕ → List ℕ
refusal_line words = codes "refused " ++ words ++ codes "\n"

abbrev pub refused : List ℕ → Answer
refused words = record { output = refusal_line words; status = Refused }

-- A text that is made, or the words of its refusal.
abbrev pub made : Result (List ℕ) (List ℕ) → Answer
made (Ok text) = record { output = text; status = Done }
made (Err words) = refused words

-- Words that ask for nothing are refused.
abbrev pub usage : Answer
usage = record { output = refusal_line (codes "usage"); status = Usage }

-- A command that is not built yet is refused.
abbrev pub not_built : Answer
not_built = refused (codes "not-built")

-- The job of a sample.
abbrev pub sample_job : SampleNumbers → List ℕ
sample_job s = sample_text s.field s.elements s.seed

-- `sample` answers its job in short, and ends as the job does.
unfoldable pub sample : SampleNumbers → Answer
sample s = record { output = summary (output (sample_job s) (spelled most_limit)); status = end_of (sample_job s) (spelled most_limit) }

-- `build` answers the text of a decomposition with the header of the tree that is built for it.
unfoldable pub build : List ℕ → Answer
build text = made (build_output text)

-- `dual` answers the text of a header with the header of a tree of the dual matroid.
unfoldable pub dual : List ℕ → Answer
dual text = made (dual_output text)

-- An answer was written, and the status is its own, unless the write was cut short.
pub record Writes (answer : Answer) (held held_new : Option (List ℕ)) (status : Status) : Type 0 where
  pub ends : (status ≡ answer.status) ⊎ (status ≡ WriteFault) ⊎ (status ≡ NoMemory)
  pub grew : status ≡ answer.status → Appends held held_new answer.output
  pub front : IsCut status → GrowsByFront held held_new answer.output
