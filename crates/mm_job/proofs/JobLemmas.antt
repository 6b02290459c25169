-- A job that is fed a piece of a text, and the text with the piece.
use Rattle.std.proofs.Common.{◌≡◌, ℕ, ◌+◌, ◌-◌, ◌≤◌, ◌<◌, Bool, true, false, List, [], ◌++◌, length, take, None, refl, sym, ap, ap₂, ◌∙◌, subst, arith}
use Rattle.std.specs.Prelude.{if◌then◌else◌, Ok, Err, IfOk}
use Rattle.std.specs.declared.result.Result.{Result}
use Rattle.std.specs.List.{list_any}
use Rattle.std.proofs.lemmas.Bool.{lt-ltb, or_right}
use Rattle.std.proofs.lemmas.List.{length-append, length-take, take_all, take-take}
use Rattle.std.proofs.Math.Seq.{take-append-add}
use Rattle.mm_base.specs.declared.status.Status.{Status}
use Rattle.mm_base.specs.declared.status.Status.TheVariants as status
use Rattle.mm_lines.specs.Lines.{is_over, lines_of, most_bytes, settled}
use Rattle.mm_lines.specs.Streams.{Stream}
use Rattle.mm_lines.specs.declared.line.Line.{Line}
use Rattle.mm_job_text.specs.Readers.{Reading, Read, Refused, Short}
use Rattle.mm_job.specs.State.JobStates.{come_to, is_refused}
use Rattle.mm_job.specs.Header.{Session, header, header_lines}
use Rattle.mm_job.specs.Items.{Items, NoMore, Unended, Single, Block, items}
use Rattle.mm_job.specs.Jobs.{JobValue, begins_refused, progress, with_piece}
use Rattle.mm_job.specs.State.Kept.{IsJob, IsLive, state_of}
use Rattle.mm_job.specs.declared.job.Job.TheInside.{Inside}
use Rattle.mm_job.specs.Output.{Ending, More, Over, after_reply, end_of, is_refusal, printed_all, reply_line, settled_lines, settled_output, status_of, written_lines, lines_after_header, lines_of_items}
use Rattle.mm_job.specs.Edits.{block, single}
use Rattle.mm_job.specs.State.Stages.{lines_from_stage, work_from_stage}
use Rattle.mm_job.specs.State.Standing.{IsRead, Stands, work_at, written_at}
use Rattle.mm_job.specs.Calls.{SpendsOnText}
use Rattle.mm_job.specs.Settings.{Settings}
use Rattle.mm_job.specs.Work.{bound_of, settled_work, work}
use Rattle.mm_job.specs.declared.state.JobState.{JobState}
use Rattle.mm_header.specs.declared.state.HeaderState.TheVariants as heads
use Rattle.mm_job.specs.declared.progress.Progress.{Progress}
use Rattle.mm_job.specs.declared.progress.Progress.TheVariants as progresses
use Rattle.mm_job.specs.declared.output_line.OutputLine.{OutputLine}
use Rattle.mm_job.specs.declared.stage.Stage.TheVariants as stages
use Rattle.mm_job.specs.Laws.{IsFinal}
use Rattle.mm_job.proofs.EndLemmas.{nothing_left, quiet}
use Rattle.mm_job.proofs.GrowthLemmas.{over_end, over_is_final, refused_end, refused_is_final}
use Rattle.mm_job.proofs.StandingLemmas.{not_over, refused_is, settled_at, settled_output_at}

-- ---- a job that has read nothing

no_lines : settled [] ≡ []
unfolding settled lines_of
no_lines = refl

first_lines : lines_of false [] ≡ []
unfolding lines_of
first_lines = refl

first_of_all : (settings : Settings) (e : Ending) (rs : List Line) → written_lines settings e rs ≡ lines_from_stage settings (stages.Header heads.Format) e rs
unfolding written_lines header header_lines
first_of_all settings e rs = refl

work_of_all : (settings : Settings) (rs : List Line) → work settings rs ≡ work_from_stage settings (stages.Header heads.Format) rs
unfolding work header_lines
work_of_all settings rs = refl

quiet_first : (settings : Settings) → written_lines settings More (settled []) ≡ []
quiet_first settings = ap (written_lines settings More) no_lines ∙ first_of_all settings More [] ∙ quiet settings (stages.Header heads.Format)

pub stands_first : (settings : Settings) (state : JobState) → state ≡ record { stage = stages.Header heads.Format; status = None } → Stands settings [] state
stands_first settings state is =
    subst (λ (c : JobState). Stands settings [] c) (sym is)
    (record {
      kept = tt;
      rest = λ e rs. ap (λ (l : List Line). written_lines settings e (l ++ rs)) no_lines ∙ first_of_all settings e rs
          ∙ ap (λ (l : List OutputLine). l ++ lines_from_stage settings (stages.Header heads.Format) e rs) (sym (quiet_first settings));
      works = λ rs.
          let all : work settings (settled [] ++ rs) ≡ work_from_stage settings (stages.Header heads.Format) rs =
          ap (λ (l : List Line). work settings (l ++ rs)) no_lines ∙ work_of_all settings rs in
          let none : work_at settings [] ≡ 0 = ap (work settings) no_lines ∙ work_of_all settings [] ∙ nothing_left settings (stages.Header heads.Format) in
          omega (arith, all, none);
      comes = ap (come_to None) (sym (quiet_first settings));
    })

-- ---- a text that is used as a whole

progress_by : Bool → Bool → Progress
progress_by refused over = if refused then progresses.Ended status.Refused else if over then progresses.Ended status.EditRefused else progresses.More

progress_is : (text : List ℕ) (settings : Settings) (output_line : List OutputLine) (over : Bool) → settled_lines text settings ≡ output_line → is_over text ≡ over → progress text settings ≡ progress_by (begins_refused output_line) over
unfolding progress_by
progress_is text settings output_line over is same =
    ap₂ (λ (a b : Bool). if a then progresses.Ended status.Refused else if b then progresses.Ended status.EditRefused else progresses.More) (ap begins_refused is) same

of_status : (text : List ℕ) (settings : Settings) (b : JobState) → length text ≤ most_bytes → Stands settings text b → progress text settings ≡ progress_by (is_refused b.status) false
of_status text settings b size stands =
    progress_is text settings (written_lines settings More (settled text)) false (settled_at settings text size) (not_over text size)
    ∙ ap (λ (c : Bool). progress_by c false) (sym (refused_is (written_lines settings More (settled text))) ∙ ap is_refused (sym stands.comes))

pub ended_refused : (text : List ℕ) (settings : Settings) (b : JobState) (c : Bool) → length text ≤ most_bytes → Stands settings text b → c ≡ is_refused b.status → c ≡ true
    → progresses.Ended status.Refused ≡ progress text settings
unfolding progress_by
ended_refused text settings b c size stands is written_so = sym (of_status text settings b size stands ∙ ap (λ (d : Bool). progress_by d false) (sym is ∙ written_so))

pub goes_further : (text : List ℕ) (settings : Settings) (b : JobState) (c : Bool) → length text ≤ most_bytes → Stands settings text b → c ≡ is_refused b.status → c ≡ false
    → progresses.More ≡ progress text settings
unfolding progress_by
goes_further text settings b c size stands is written_so = sym (of_status text settings b size stands ∙ ap (λ (d : Bool). progress_by d false) (sym is ∙ written_so))

pub whole_piece : (text piece : List ℕ) → length text + length piece ≤ most_bytes → with_piece text piece ≡ text ++ piece
whole_piece text piece size = take_all (most_bytes + 1) (text ++ piece) (omega (arith, size, length-append text piece))

-- ---- a text with more bytes

items_end : (s : Session) (its : Items) → list_any is_refusal (lines_of_items Over s its) ≡ true
unfolding lines_of_items
items_end s NoMore = refl
items_end s Unended = refl
items_end s (Single r rest) = or_right (is_refusal (reply_line (single s r))) _ (items_end (after_reply s (single s r)) rest)
items_end s (Block r rs rest) = or_right (is_refusal (reply_line (block s r rs))) _ (items_end (after_reply s (block s r rs)) rest)

after_end : (r : Reading Session) → status_of (lines_after_header Over r) ≡ (if begins_refused (lines_after_header Over r) then status.Refused else status.EditRefused)
after_end (Read s rest) = ap (λ (c : Bool). if c then status.EditRefused else status.Done) (items_end s (items rest))
after_end (Refused why) = refl
after_end Short = refl

over_status : (settings : Settings) (rs : List Line) → status_of (written_lines settings Over rs) ≡ (if begins_refused (written_lines settings Over rs) then status.Refused else status.EditRefused)
unfolding written_lines
over_status settings rs = after_end (header settings rs)

-- the part of the piece that is used
abbrev used : List ℕ → List ℕ → List ℕ
used text piece = take (most_bytes - length text) piece

used_size : (text piece : List ℕ) → length text ≤ most_bytes → most_bytes - length text < length piece → length (text ++ used text piece) ≡ most_bytes
used_size text piece size long = omega (arith, size, long, length-append text (used text piece), length-take (most_bytes - length text) piece)

used_is : (text piece : List ℕ) → length text ≤ most_bytes → take most_bytes (text ++ piece) ≡ text ++ used text piece
used_is text piece size =
    ap (λ (k : ℕ). take k (text ++ piece)) {x = most_bytes} {y = length text + (most_bytes - length text)} (omega (arith, size)) ∙ take-append-add text piece (most_bytes - length text)

long_settled : (text piece : List ℕ) → length text ≤ most_bytes → most_bytes - length text < length piece → settled (with_piece text piece) ≡ settled (text ++ used text piece)
unfolding settled
long_settled text piece size long =
    ap (lines_of false)
    (take-take most_bytes (most_bytes + 1) (text ++ piece) (omega arith) ∙ used_is text piece size
    ∙ sym (take_all most_bytes (text ++ used text piece) (omega (arith, used_size text piece size long))))

long_over : (text piece : List ℕ) → length text ≤ most_bytes → most_bytes - length text < length piece → is_over (with_piece text piece) ≡ true
long_over text piece size long =
    lt-ltb most_bytes (length (with_piece text piece)) (omega (arith, size, long, length-append text piece, length-take (most_bytes + 1) (text ++ piece)))

long_lines : (settings : Settings) (text piece : List ℕ) → length text ≤ most_bytes → most_bytes - length text < length piece
    → settled_lines (with_piece text piece) settings ≡ written_lines settings Over (settled (text ++ used text piece))
unfolding settled_lines
long_lines settings text piece size long =
    ap (λ (c : Bool). written_lines settings (if c then Over else More) (settled (with_piece text piece))) (long_over text piece size long) ∙ ap (written_lines settings Over) (long_settled text piece size long)

pub long_output : (settings : Settings) (text piece : List ℕ) → length text ≤ most_bytes → most_bytes - length text < length piece
    → settled_output (with_piece text piece) settings ≡ written_at Over settings (text ++ take (most_bytes - length text) piece)
long_output settings text piece size long = ap printed_all (long_lines settings text piece size long)

ended_by : (refused : Bool) (s : Status) → s ≡ (if refused then status.Refused else status.EditRefused) → progresses.Ended s ≡ progress_by refused true
unfolding progress_by
ended_by true s h = ap progresses.Ended h
ended_by false s h = ap progresses.Ended h

pub long_progress : (settings : Settings) (text piece : List ℕ) → length text ≤ most_bytes → most_bytes - length text < length piece
    → progresses.Ended (status_of (written_lines settings Over (settled (text ++ take (most_bytes - length text) piece)))) ≡ progress (with_piece text piece) settings
long_progress settings text piece size long =
    let output_line = written_lines settings Over (settled (text ++ used text piece)) in
    ended_by (begins_refused output_line) (status_of output_line) (over_status settings (settled (text ++ used text piece)))
    ∙ sym (progress_is (with_piece text piece) settings output_line true (long_lines settings text piece size long) (long_over text piece size long))

-- ---- the fields of a job, and what callers see

pub live_of : (i : Inside) (s : JobValue) → state_of i ≡ s → s.live ≡ true → IsJob i → IsLive i
live_of i s view live kept = kept (ap (λ (v : JobValue). v.live) view ∙ live)

pub first_live : (i : Inside) → i.taken ≡ 0 → i.framer ≡ record { bytes = []; ended = false; handed = 0 } → i.state ≡ record { stage = stages.Header heads.Format; status = None } → IsLive i
first_live i none framer state =
    let empty : i.framer.bytes ≡ [] = ap (λ (s : Stream). s.bytes) framer in
    record {
      taken = none ∙ ap length (sym empty);
      size = omega (arith, ap length empty);
      stream = subst IsRead (sym framer) (record { open_ended = refl; all = sym (ap length first_lines) });
      stands = subst (λ (l : List ℕ). Stands i.settings l i.state) (sym empty) (stands_first i.settings i.state state);
    }

-- what holds of the written bytes of the fields holds of the output of the state
pub of_state : (R : List ℕ → List ℕ → Type 0) (after : Settings → List ℕ → List ℕ) (i : Inside) (s : JobValue) → state_of i ≡ s → length i.framer.bytes ≤ most_bytes
    → R (written_at More i.settings i.framer.bytes) (after i.settings i.framer.bytes) → R (settled_output s.text s.settings) (after s.settings s.text)
of_state R after i s view size h =
    subst (λ (v : JobValue). R (settled_output v.text v.settings) (after v.settings v.text)) view
    (subst (λ (l : List ℕ). R l (after i.settings i.framer.bytes)) (sym (settled_output_at i.settings i.framer.bytes size)) h)

size_of : (i : Inside) (s : JobValue) (piece : List ℕ) → state_of i ≡ s → length s.text + length piece ≤ most_bytes → length i.framer.bytes + length piece ≤ most_bytes
size_of i s piece view size = omega (arith, size, ap (λ (v : JobValue). length v.text) view)

pub all_of_state : (R : List ℕ → List ℕ → Type 0) (piece : List ℕ) (i : Inside) (s : JobValue) → state_of i ≡ s → length s.text + length piece ≤ most_bytes
    → R (written_at More i.settings i.framer.bytes) (written_at More i.settings (i.framer.bytes ++ piece)) → R (settled_output s.text s.settings) (settled_output (s.text ++ piece) s.settings)
all_of_state R piece i s view size h =
    let small = size_of i s piece view size in
    let text = i.framer.bytes in
    of_state R (λ settings text. settled_output (text ++ piece) settings) i s view (omega (arith, small))
    (subst (λ (l : List ℕ). R (written_at More i.settings text) l) (sym (settled_output_at i.settings (text ++ piece) (omega (arith, small, length-append text piece)))) h)

pub last_of_state : (R : List ℕ → List ℕ → Type 0) (piece : List ℕ) (i : Inside) (s : JobValue) → state_of i ≡ s → length s.text + length piece ≤ most_bytes
    → R (written_at More i.settings i.framer.bytes) (written_at Over i.settings (i.framer.bytes ++ piece)) → R (settled_output s.text s.settings) (written_at Over s.settings (s.text ++ piece))
last_of_state R piece i s view size h =
    let small = size_of i s piece view size in
    of_state R (λ settings text. written_at Over settings (text ++ piece)) i s view (omega (arith, small)) h

-- what holds of the work by the fields holds of it as callers see it
pub work_of_state : (piece : List ℕ) (i : Inside) (s : JobValue) (steps steps_new : ℕ) → state_of i ≡ s
    → SpendsOnText steps steps_new (work_at i.settings i.framer.bytes) (work_at i.settings (i.framer.bytes ++ piece))
    → SpendsOnText steps steps_new (settled_work s.text s.settings) (settled_work (s.text ++ piece) s.settings)
work_of_state piece i s steps steps_new view h =
    subst (λ (v : JobValue). SpendsOnText steps steps_new (settled_work v.text v.settings) (settled_work (v.text ++ piece) v.settings)) view h

pub bound_of_state : (i : Inside) (s : JobValue) (steps steps_new : ℕ) → state_of i ≡ s
    → SpendsOnText steps steps_new (work_at i.settings i.framer.bytes) (bound_of i.framer.bytes i.settings)
    → SpendsOnText steps steps_new (settled_work s.text s.settings) (bound_of s.text s.settings)
bound_of_state i s steps steps_new view h =
    subst (λ (v : JobValue). SpendsOnText steps steps_new (settled_work v.text v.settings) (bound_of v.text v.settings)) view h

pub state_refused : (piece : List ℕ) (i : Inside) (s : JobValue) (b : JobState) (c : Bool) → state_of i ≡ s → length s.text + length piece ≤ most_bytes
    → Stands i.settings (i.framer.bytes ++ piece) b → c ≡ is_refused b.status → c ≡ true → progresses.Ended status.Refused ≡ progress (s.text ++ piece) s.settings
state_refused piece i s b c view size stands is written_so =
    let small = size_of i s piece view size in
    ended_refused (i.framer.bytes ++ piece) i.settings b c (omega (arith, small, length-append i.framer.bytes piece)) stands is written_so ∙ ap (λ (v : JobValue). progress (v.text ++ piece) v.settings) view

pub state_goes_on : (piece : List ℕ) (i : Inside) (s : JobValue) (b : JobState) (c : Bool) → state_of i ≡ s → length s.text + length piece ≤ most_bytes
    → Stands i.settings (i.framer.bytes ++ piece) b → c ≡ is_refused b.status → c ≡ false → progresses.More ≡ progress (s.text ++ piece) s.settings
state_goes_on piece i s b c view size stands is written_so =
    let small = size_of i s piece view size in
    goes_further (i.framer.bytes ++ piece) i.settings b c (omega (arith, small, length-append i.framer.bytes piece)) stands is written_so ∙ ap (λ (v : JobValue). progress (v.text ++ piece) v.settings) view

-- ---- results

pub value_as : {X E : Type 0} (a b : X) (r : Result X E) → a ≡ b → IfOk r (λ x. x ≡ a) → IfOk r (λ x. x ≡ b)
value_as a b (Ok x) is p = p ∙ is
value_as a b (Err e) is p = tt

-- ---- room for a piece

-- the room that is left for the text of a job
pub record Room (s : JobValue) (room : ℕ) : Type 0 where
  pub size : length s.text ≤ most_bytes
  pub is : room ≡ most_bytes - length s.text

pub room_of : (i : Inside) (s : JobValue) → state_of i ≡ s → s.live ≡ true → IsJob i → Room s (most_bytes - i.taken)
room_of i s view live kept =
    let l = live_of i s view live kept in
    let same : i.taken ≡ length s.text = l.taken ∙ ap (λ (v : JobValue). length v.text) view in
    record { size = omega (arith, l.size, l.taken, same); is = ap (λ (k : ℕ). most_bytes - k) same }

pub last_progress : (s : JobValue) (room : ℕ) (piece : List ℕ) → Room s room → room < length piece
    → progresses.Ended (status_of (written_lines s.settings Over (settled (s.text ++ take room piece)))) ≡ progress (with_piece s.text piece) s.settings
last_progress s room piece r long =
    ap (λ (k : ℕ). progresses.Ended (status_of (written_lines s.settings Over (settled (s.text ++ take k piece))))) r.is
    ∙ long_progress s.settings s.text piece r.size (omega (arith, long, r.is))

pub last_output : (s : JobValue) (room : ℕ) (piece : List ℕ) → Room s room → room < length piece
    → written_at Over s.settings (s.text ++ take room piece) ≡ settled_output (with_piece s.text piece) s.settings
last_output s room piece r long =
    ap (λ (k : ℕ). written_at Over s.settings (s.text ++ take k piece)) r.is ∙ sym (long_output s.settings s.text piece r.size (omega (arith, long, r.is)))

pub last_work : (s : JobValue) (room : ℕ) (piece : List ℕ) → Room s room → room < length piece
    → settled_work (s.text ++ take room piece) s.settings ≡ settled_work (with_piece s.text piece) s.settings
last_work s room piece r long =
    ap (λ (k : ℕ). settled_work (s.text ++ take k piece) s.settings) r.is
    ∙ ap (work s.settings) (sym (long_settled s.text piece r.size (omega (arith, long, r.is))))

pub fits : (s : JobValue) (room : ℕ) (piece : List ℕ) → Room s room → length piece ≤ room → with_piece s.text piece ≡ s.text ++ piece
fits s room piece r short = whole_piece s.text piece (omega (arith, short, r.is, r.size))

-- ---- a job that has ended

status_in : Progress → Status
status_in progresses.More = status.Done
status_in (progresses.Ended s) = s

over_now : (settings : Settings) (a : List ℕ) (r : Reading Session) → header settings (settled a) ≡ r → is_over a ≡ true → end_of a settings ≡ status_of (lines_after_header Over r)
unfolding written_lines
over_now settings a r is over = over_end settings a over ∙ ap (λ (x : Reading Session). status_of (lines_after_header Over x)) is

final_by : (settings : Settings) (a b : List ℕ) (s : Status) (r : Reading Session) (over : Bool) → header settings (settled a) ≡ r → is_over a ≡ over
    → progress_by (begins_refused (lines_after_header (if over then Over else More) r)) over ≡ progresses.Ended s → IsFinal settings a b × (end_of a settings ≡ s)
unfolding progress_by status_in
final_by settings a b s (Refused why) true is same h = (refused_is_final settings a b (why, is), refused_end settings a (why, is) ∙ ap status_in h)
final_by settings a b s (Refused why) false is same h = (refused_is_final settings a b (why, is), refused_end settings a (why, is) ∙ ap status_in h)
final_by settings a b s Short true is same h = (over_is_final settings a b same, over_now settings a Short is same ∙ ap status_in h)
final_by settings a b s Short false is same h = absurd (let n : progresses.More ≡ progresses.Ended s = h in cc)
final_by settings a b s (Read t rest) true is same h = (over_is_final settings a b same, over_now settings a (Read t rest) is same ∙ after_end (Read t rest) ∙ ap status_in h)
final_by settings a b s (Read t rest) false is same h = absurd (let n : progresses.More ≡ progresses.Ended s = h in cc)

pub ended_is_final : (settings : Settings) (a b : List ℕ) (s : Status) → progress a settings ≡ progresses.Ended s → IsFinal settings a b × (end_of a settings ≡ s)
unfolding written_lines settled_lines
ended_is_final settings a b s h =
    final_by settings a b s (header settings (settled a)) (is_over a) refl refl
    (sym (progress_is a settings (written_lines settings (if is_over a then Over else More) (settled a)) (is_over a) refl refl) ∙ h)
