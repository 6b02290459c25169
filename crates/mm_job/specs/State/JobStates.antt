-- Between code and definitions: what the lines that a job has written come to.
use Rattle.std.specs.Prelude.{Bool, true, false, List, [], ◌∷◌, Option, Some, None, if◌then◌else◌}
use Rattle.mm_base.specs.declared.status.Status.{Status}
use Rattle.mm_base.specs.declared.status.Status.TheVariants as status
use Rattle.mm_job.specs.Output.{Ending, Ended, Over, is_refusal}
use Rattle.mm_job.specs.declared.output_line.OutputLine.{OutputLine}

-- The first line refuses the job or takes it, and a refusal after it is that of an edit.
abbrev pub after_output_line : Option Status → OutputLine → Option Status
after_output_line None output_line = Some (if is_refusal output_line then status.Refused else status.Done)
after_output_line (Some status.Done) output_line = Some (if is_refusal output_line then status.EditRefused else status.Done)
after_output_line (Some s) output_line = Some s

-- What some lines more come to, one by one.
abbrev pub come_to : Option Status → List OutputLine → Option Status
come_to s [] = s
come_to s (output_line ∷ more) = come_to (after_output_line s output_line) more

-- The status where nothing more is written.
abbrev pub status_at : Option Status → Status
status_at None = status.Done
status_at (Some s) = s

abbrev pub is_refused : Option Status → Bool
is_refused (Some status.Refused) = true
is_refused s = false

-- A text ends, or it has more bytes than are used.
abbrev pub end_by : Bool → Ending
end_by over = if over then Over else Ended
