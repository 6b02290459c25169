-- What a job writes, and how it ends.
use Rattle.std.specs.Prelude.{ℕ, Bool, true, false, List, [], ◌∷◌, ◌++◌, codes, flat_map, if◌then◌else◌}
use Rattle.std.specs.List.{list_any}
use Rattle.mm_base.specs.declared.status.Status.{Status}
use Rattle.mm_base.specs.declared.status.Status.TheVariants as status
use Rattle.mm_job.specs.Edits.{Reply, Changed, Compared, Denied, single, block}
use Rattle.mm_job.specs.Header.{Session, header}
use Rattle.mm_job.specs.Items.{Items, NoMore, Unended, Single, Block, items}
use Rattle.mm_job.specs.Meaning.{answer_line}
use Rattle.mm_job.specs.Settings.{Settings}
use Rattle.mm_job.specs.declared.output_line.OutputLine.{OutputLine}
use Rattle.mm_job.specs.declared.output_line.OutputLine.TheVariants.{Says, Refuses}
use Rattle.mm_lines.specs.Lines.{is_over, lines, settled}
use Rattle.mm_lines.specs.declared.line.Line.{Line}
use Rattle.mm_job_text.specs.Readers.{Reading, Read, Refused, Short}
use Rattle.mm_job_text.specs.Words.{words}
use Rattle.mm_job_text.specs.declared.refusal.Refusal.TheVariants as refusal

abbrev pub answered : Session → OutputLine
answered s = Says (answer_line s.f s.query s.tree)

-- What stands after the lines: more may come; nothing, since the text has ended; or more bytes than are used.
pub data Ending : Type 0 where
  More Ended Over : Ending

-- What is written at the end, in a header or a block.
abbrev pub cut_short : Ending → List OutputLine
cut_short More = []
cut_short Ended = Refuses refusal.Unfinished ∷ []
cut_short Over = Refuses refusal.TooLong ∷ []

-- What is written at the end, between two items.
abbrev pub at_rest : Ending → List OutputLine
at_rest More = []
at_rest Ended = []
at_rest Over = Refuses refusal.TooLong ∷ []

-- The line of an item, and the session after it.
abbrev pub reply_line : Reply → OutputLine
reply_line (Changed new) = answered new
reply_line (Compared same) = Says (if same then codes "same" else codes "differs")
reply_line (Denied e) = Refuses e

abbrev pub after_reply : Session → Reply → Session
after_reply s (Changed new) = new
after_reply s (Compared same) = s
after_reply s (Denied e) = s

-- The lines of some items, for a session.
unfoldable pub lines_of_items : Ending → Session → Items → List OutputLine
lines_of_items e s NoMore = at_rest e
lines_of_items e s Unended = cut_short e
lines_of_items e s (Single r rest) = reply_line (single s r) ∷ lines_of_items e (after_reply s (single s r)) rest
lines_of_items e s (Block r rs rest) = reply_line (block s r rs) ∷ lines_of_items e (after_reply s (block s r rs)) rest

abbrev pub lines_after_header : Ending → Reading Session → List OutputLine
lines_after_header e (Read s rest) = answered s ∷ lines_of_items e s (items rest)
lines_after_header e (Refused why) = Refuses why ∷ []
lines_after_header e Short = cut_short e

-- The lines that are written for some lines of a job.
unfoldable pub written_lines : Settings → Ending → List Line → List OutputLine
written_lines settings e rs = lines_after_header e (header settings rs)

abbrev pub ending : Ending → List ℕ → Ending
ending e text = if is_over text then Over else e

-- The lines of the output of a job, and those that are settled in a text that may go on.
unfoldable pub output_lines : List ℕ → Settings → List OutputLine
output_lines text settings = written_lines settings (ending Ended text) (lines text)

unfoldable pub settled_lines : List ℕ → Settings → List OutputLine
settled_lines text settings = written_lines settings (ending More text) (settled text)

-- A line as it is written.
abbrev pub printed : OutputLine → List ℕ
printed (Says text) = text ++ codes "\n"
printed (Refuses why) = codes "refused " ++ words why ++ codes "\n"

abbrev pub printed_all : List OutputLine → List ℕ
printed_all output_line = flat_map printed output_line

-- The output of a job.
abbrev pub output : List ℕ → Settings → List ℕ
output text settings = printed_all (output_lines text settings)

-- The output that is settled in a text that may go on.
abbrev pub settled_output : List ℕ → Settings → List ℕ
settled_output text settings = printed_all (settled_lines text settings)

abbrev pub is_refusal : OutputLine → Bool
is_refusal (Says text) = false
is_refusal (Refuses why) = true

-- A refused first line refuses the job, and a later one is a refused edit.
abbrev pub status_of : List OutputLine → Status
status_of [] = status.Done
status_of (first ∷ rest) =
    if is_refusal first then status.Refused
    else if list_any is_refusal rest then status.EditRefused
    else status.Done

-- The status of a job.
abbrev pub end_of : List ℕ → Settings → Status
end_of text settings = status_of (output_lines text settings)
