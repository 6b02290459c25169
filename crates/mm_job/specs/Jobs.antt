-- What a job is to its callers.
use Rattle.std.proofs.Common.{refl}
use Rattle.std.specs.Prelude.{◌≡◌, ℕ, ◌+◌, ◌≤◌, Bool, true, false, List, [], ◌∷◌, ◌++◌, take, Option, Ok, Err, IsErrOf, if◌then◌else◌}
use Rattle.std.specs.Io.KnownBytes.{Appends}
use Rattle.std.specs.declared.result.Result.{Result}
use Rattle.mm_base.specs.Causes.{GrowsByFront, Rose}
use Rattle.mm_base.specs.declared.status.Status.TheVariants as status
use Rattle.mm_lines.specs.Lines.{is_over, most_bytes}
use Rattle.mm_job.specs.Output.{is_refusal, settled_lines}
use Rattle.mm_job.specs.Settings.{Settings, settings_code}
use Rattle.std.specs.Coded.{Coded, code_by, coded×, coded_ℕ, coded_bool, coded_list}
use Rattle.mm_job.specs.declared.progress.JobFault.{JobFault}
use Rattle.mm_job.specs.declared.progress.JobFault.TheVariants as fault
use Rattle.mm_job.specs.declared.progress.Progress.{Progress}
use Rattle.mm_job.specs.declared.progress.Progress.TheVariants.{More, Ended}
use Rattle.mm_job.specs.declared.output_line.OutputLine.{OutputLine}

-- A job: the text so far, how it is asked, and whether it goes on.
pub record JobValue : Type 0 where
  pub text : List ℕ
  pub settings : Settings
  pub live : Bool

-- How jobs are told apart.
abbrev pub job_code : Coded JobValue
job_code =
    code_by (List ℕ × (Settings × Bool)) (coded× (coded_list coded_ℕ) (coded× settings_code coded_bool)) (λ j. (j.text, (j.settings, j.live)))
    (λ p. record { text = p.0; settings = p.1.0; live = p.1.1 }) (λ j. refl)

-- A text with a piece more, cut after the first byte that is too many.
abbrev pub with_piece : List ℕ → List ℕ → List ℕ
with_piece text piece = take (most_bytes + 1) (text ++ piece)

-- What a sink holds has grown by what one output has after another.
pub record Grew (held held_new : Option (List ℕ)) (before now : List ℕ) : Type 0 where
  pub wrote : List ℕ
  pub grew : Appends held held_new wrote
  pub whole : before ++ wrote ≡ now

-- What a sink holds has grown by a front of what one output has after another.
pub record GrewByFront (held held_new : Option (List ℕ)) (before now : List ℕ) : Type 0 where
  pub rest : List ℕ
  pub grew : GrowsByFront held held_new rest
  pub whole : before ++ rest ≡ now

-- The first line refuses the header.
abbrev pub begins_refused : List OutputLine → Bool
begins_refused [] = false
begins_refused (first ∷ rest) = is_refusal first

-- A job ends where what is there refuses its header, and where its text has more bytes than are used; else more may come.
abbrev pub progress : List ℕ → Settings → Progress
progress text settings =
    if begins_refused (settled_lines text settings) then Ended status.Refused
    else if is_over text then Ended status.EditRefused
    else More

-- A job goes on where more may come.
abbrev pub goes_on : Result Progress JobFault → Bool
goes_on (Ok More) = true
goes_on (Ok (Ended s)) = false
goes_on (Err e) = false

-- A count of faults never falls, and `Write` comes only where it rose.
pub record HasJobCause {T : Type 0} (before now : ℕ) (result : Result T JobFault) : Type 0 where
  pub later : before ≤ now
  pub failed : IsErrOf result fault.Write → Rose before now
