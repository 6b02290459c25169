-- Between code and definitions: what an editor has replied to an edit and to a query line, and the steps that this took.
use Rattle.std.specs.Prelude.{◌≡◌, ◌≤◌, ℕ, ◌+◌, true, false, List, ◌∷◌, [], Option, Ok, Err, IfOk}
use Rattle.std.specs.Result.{result_ok}
use Rattle.std.specs.declared.result.Result.{Result}
use Rattle.std.specs.Fmt.{signed_decimal}
use Rattle.std.specs.Prelude.{codes, flat_map, ◌++◌}
use Rattle.mm_edit.specs.Edits.{Applied}
use Rattle.mm_edit.specs.declared.fault.EditFault.{EditFault}
use Rattle.mm_edit.specs.declared.fault.EditFault.TheVariants as fault
use Rattle.mm_edit.specs.declared.answer.Answer.{Answer}
use Rattle.mm_edit.specs.declared.answer.Answer.TheVariants as answer
use Rattle.mm_job.specs.Edits.{Reply, changed}
use Rattle.mm_job.specs.Items.{items}
use Rattle.mm_job.specs.Output.{after_reply, reply_line}
use Rattle.mm_job.specs.State.Sessions.{IsEditor, kept_of, session_of}
use Rattle.mm_job.specs.State.Spending.{Spends, SpendsAtMost}
use Rattle.mm_job.specs.Header.{Session, is_over_limit, started}
use Rattle.mm_job.specs.Work.{edit_work, items_work, kept_after, types_in, work_after}
use Rattle.mm_job.specs.State.Blocks.{block_from, edit_from}
use Rattle.mm_job.specs.declared.block.Block.{Block}
use Rattle.mm_job.specs.declared.editor.Editor.{Editor}
use Rattle.mm_job.specs.declared.output_line.OutputLine.{OutputLine}
use Rattle.mm_job_text.specs.Becoming.{Goes}
use Rattle.mm_job_text.specs.Readers.{Reader, Read, and_then, now}
use Rattle.mm_job_text.specs.declared.refusal.Limit.TheVariants as limit
use Rattle.mm_job_text.specs.declared.refusal.Refusal.{Refusal}
use Rattle.mm_job_text.specs.declared.refusal.Refusal.TheVariants as refusal
use Rattle.mm_job_text.specs.declared.refusal.Stop.{Stop}
use Rattle.mm_job_text.specs.declared.refusal.Stop.TheVariants.{Refused, NoMemory}
use Rattle.mm_lines.specs.declared.line.Line.{Line}
use Rattle.mm_logic.specs.Order.{SameMembers}

-- Why an edit is not done, by a line or a block whose last line has this number.
abbrev pub edit_stop : ℕ → EditFault → Stop
edit_stop n (fault.UnknownName name) = Refused (refusal.Unknown name)
edit_stop n (fault.NoSuchNode name up) = Refused (refusal.NoNode name up)
edit_stop n (fault.Boundary old new) = Refused (refusal.Boundary old new)
edit_stop n (fault.NameTaken name) = Refused (refusal.Taken name)
edit_stop n fault.TooManyLeaves = Refused (refusal.Over limit.Leaves n)
edit_stop n fault.TooDeep = Refused (refusal.Over limit.Depth n)
edit_stop n fault.States = Refused refusal.States
edit_stop n fault.NoMemory = NoMemory

-- The line of an answer.
abbrev pub answer_text : Answer → List ℕ
answer_text answer.Yes = codes "true"
answer_text answer.No = codes "false"
answer_text (answer.Least best) = codes "least " ++ signed_decimal best.weight ++ flat_map (λ name. codes " " ++ name) best.names
answer_text answer.Nothing = codes "none"

-- An editor has replied to an item: it wrote the line of the reply, and has the session and the kept types after it.
pub record Replies (old new : Editor) (reply : Reply) (edit : Option Applied) (output : OutputLine) : Type 0 where
  pub line : output ≡ reply_line reply
  pub session : session_of new ≡ after_reply (session_of old) reply
  pub kept : SameMembers (kept_of new) (kept_after (session_of old) (kept_of old) edit)
  pub editor : IsEditor new

abbrev pub RepliesToEdit : (old new : Editor) → Result Applied Refusal → OutputLine → Type 0
RepliesToEdit old new edit output = Replies old new (changed (session_of old) edit) (result_ok edit) output

abbrev pub ClosesBlock : (old new : Editor) → Block → Line → OutputLine → Type 0
ClosesBlock old new b r output = Replies old new (block_from (session_of old) b (r ∷ [])) (edit_from (session_of old) b (r ∷ [])) output

-- The steps of an edit, where the present tree allows one, are within its work.
abbrev pub SpendsOn : Editor → Option Applied → (steps steps_new : ℕ) → Type 0
SpendsOn old edit steps steps_new = steps_new ≤ steps + edit_work (session_of old) (kept_of old) edit

abbrev pub SpendsEdit : Editor → Result Applied Refusal → (steps steps_new : ℕ) → Type 0
SpendsEdit old edit steps steps_new = SpendsOn old (result_ok edit) steps steps_new

abbrev pub SpendsEnd : Editor → Block → Line → (steps steps_new : ℕ) → Type 0
SpendsEnd old b r steps steps_new = SpendsOn old (edit_from (session_of old) b (r ∷ [])) steps steps_new

-- An editor has begun on a session: the tree is not over the limit, and exactly its types are kept.
pub record Begun (s : Session) (e : Editor) : Type 0 where
  pub session : session_of e ≡ s
  pub within : is_over_limit s s.tree ≡ false
  pub kept : SameMembers (kept_of e) (types_in s s.tree)
  pub editor : IsEditor e

-- It has begun, or the tree is over the limit, or memory ran out.
abbrev pub Begins : Session → Result Editor Stop → Type 0
Begins s (Ok e) = Begun s e
Begins s (Err (Refused why)) = (why ≡ refusal.States) × (is_over_limit s s.tree ≡ true)
Begins s (Err NoMemory) = Unit {0}

-- The steps of some lines are within the nodes of the tree, and the work of the lines after them is that of the editor's items.
abbrev pub SpendsStart : (List Line → ℕ) → List Line → Result Editor Stop → (steps steps_new : ℕ) → Type 0
SpendsStart before lines (Ok e) steps steps_new = Spends before (λ rs. items_work (kept_of e) (session_of e) (items rs)) lines [] steps steps_new
SpendsStart before lines (Err (Refused why)) steps steps_new = Spends before (λ rs. 0) lines [] steps steps_new
SpendsStart before lines (Err NoMemory) steps steps_new = SpendsAtMost before lines steps steps_new

-- Some lines, as they are read, begin a session that is not over its limit, or are refused, or memory ran out.
pub record Starts (reader : Reader Session) (lines : List Line) (result : Result Editor Stop) (steps steps_new : ℕ) : Type 0 where
  pub editor : IfOk result IsEditor
  pub goes : (rs : List Line) → Goes result (and_then (reader (lines ++ rs)) (λ s. now (started s))) (λ e. Read (session_of e) rs)
  pub spends : SpendsStart (λ rs. work_after (reader rs)) lines result steps steps_new
