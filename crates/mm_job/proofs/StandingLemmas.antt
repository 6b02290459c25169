-- A job that stands for a text, and was fed the lines of a piece, stands for the text with the piece.
use Rattle.std.proofs.Common.{◌≡◌, ℕ, ◌+◌, ◌≤◌, Bool, true, false, not, List, [], ◌∷◌, ◌++◌, length, take, drop, Option, Some, None, refl, sym, ap, ◌∙◌, subst, arith}
use Rattle.std.specs.Prelude.{◌||◌, if◌then◌else◌, IfOk, OnOk, OnErr, Ok, Err}
use Rattle.std.specs.declared.result.Result.{Result}
use Rattle.std.specs.List.{list_any}
use Rattle.std.specs.Io.KnownBytes.{Appends}
use Rattle.std.proofs.KnownBytes.{Appends-trans}
use Rattle.std.proofs.lemmas.Bool.{ltb-true}
use Rattle.std.proofs.lemmas.List.{append_assoc, append-nil, length-append, length-drop, take_all}
use Rattle.std.proofs.lemmas.Grind.{flat_map-append}
use Rattle.std.proofs.Math.Seq.{drop-append_seam}
use Rattle.mm_base.specs.Causes.{GrowsByFront}
use Rattle.mm_base.specs.declared.status.Status.{Status}
use Rattle.mm_base.specs.declared.status.Status.TheVariants as status
use Rattle.mm_base.proofs.FrontLemmas.{front_after}
use Rattle.mm_lines.specs.Lines.{is_over, lines, lines_of, most_bytes, settled}
use Rattle.mm_lines.specs.Streams.{Stream}
use Rattle.mm_lines.specs.declared.line.Line.{Line}
use Rattle.mm_lines.proofs.FrontLemmas.{lines_go_on}
use Rattle.mm_job.specs.State.JobStates.{come_to, is_refused, status_at}
use Rattle.mm_job.specs.State.Feeding.{Fed, IsWithin, left}
use Rattle.mm_job.specs.Jobs.{Grew, GrewByFront, begins_refused}
use Rattle.mm_job.specs.Output.{Ending, More, Ended, Over, end_of, is_refusal, output, output_lines, printed, printed_all, settled_lines, settled_output, status_of, written_lines}
use Rattle.mm_job.specs.Calls.{SpendsOnText}
use Rattle.mm_job.specs.State.Spending.{Spends, SpendsAtMost}
use Rattle.mm_job.specs.State.Stages.{IsKeptAt, lines_from_stage, work_from_stage}
use Rattle.mm_job.specs.State.Standing.{IsRead, Stands, work_at, written_at}
use Rattle.mm_job.specs.Work.{bound_of, work}
use Rattle.mm_job.specs.declared.state.JobState.{JobState}
use Rattle.mm_job.specs.declared.output_line.OutputLine.{OutputLine}
use Rattle.mm_job.specs.Settings.{Settings}
use Rattle.mm_job.proofs.EndLemmas.{nothing_left, quiet}
use Rattle.mm_job.proofs.WorkLemmas.{work_grows}
use Rattle.mm_job.proofs.FeedLemmas.{come_on, nothing_written}

-- ---- texts that are not too long

over_is : (text : List ℕ) (c : Bool) → is_over text ≡ c → length text ≤ most_bytes → c ≡ false
over_is text true p h = absurd (omega (arith, h, ltb-true most_bytes (length text) p))
over_is text false p h = refl

pub not_over : (text : List ℕ) → length text ≤ most_bytes → is_over text ≡ false
not_over text h = over_is text (is_over text) refl h

pub settled_is : (text : List ℕ) → length text ≤ most_bytes → settled text ≡ lines_of false text
unfolding settled
settled_is text h = ap (lines_of false) (take_all most_bytes text h)

lines_is : (text : List ℕ) → length text ≤ most_bytes → lines text ≡ lines_of true text
unfolding lines
lines_is text h = ap (λ (c : Bool). lines_of (not c) (take most_bytes text)) (not_over text h) ∙ ap (lines_of true) (take_all most_bytes text h)

pub settled_at : (settings : Settings) (text : List ℕ) → length text ≤ most_bytes → settled_lines text settings ≡ written_lines settings More (settled text)
unfolding settled_lines
settled_at settings text h = ap (λ (c : Bool). written_lines settings (if c then Over else More) (settled text)) (not_over text h)

pub settled_output_at : (settings : Settings) (text : List ℕ) → length text ≤ most_bytes → settled_output text settings ≡ written_at More settings text
settled_output_at settings text h = ap printed_all (settled_at settings text h)

output_at : (settings : Settings) (text : List ℕ) → length text ≤ most_bytes → output_lines text settings ≡ written_lines settings Ended (lines_of true text)
unfolding output_lines
output_at settings text h =
    ap (λ (c : Bool). written_lines settings (if c then Over else Ended) (lines text)) (not_over text h) ∙ ap (written_lines settings Ended) (lines_is text h)

-- ---- lines of a stream that goes on

-- the lines of the stream with a piece, ended or not
read_more : (s : Stream) (end : Bool) (piece : List ℕ) → IsRead s → lines_of end (s.bytes ++ piece) ≡ lines_of false s.bytes ++ left (record s { bytes = s.bytes ++ piece; ended = end })
read_more s end piece read =
    let p = lines_go_on end s.bytes piece in
    let xs = lines_of false s.bytes in
    let rest : drop s.handed (lines_of end (s.bytes ++ piece)) ≡ p.0 =
    ap (drop s.handed) (sym p.1) ∙ ap (λ (k : ℕ). drop k (xs ++ p.0)) read.all ∙ drop-append_seam xs p.0 in
    sym p.1 ∙ ap (λ (l : List Line). xs ++ l) (sym rest)

more_within : (s : Stream) (end : Bool) (piece : List ℕ) → IsRead s → s.handed ≤ length (lines_of end (s.bytes ++ piece))
more_within s end piece read =
    omega (arith, read.all, ap length (read_more s end piece read), length-append (lines_of false s.bytes) (left (record s { bytes = s.bytes ++ piece; ended = end })))

all_read : (s : Stream) → s.ended ≡ false → IsWithin s → left s ≡ [] → IsRead s
all_read s going within none =
    let same : lines_of s.ended s.bytes ≡ lines_of false s.bytes = ap (λ (c : Bool). lines_of c s.bytes) going in
    record { open_ended = going; all = omega (arith, within, ap length same, ap length none, length-drop s.handed (lines_of s.ended s.bytes)) }

-- ---- steps

-- what is said of all lines of a longer text, by what was fed
output_line_on : (settings : Settings) (text : List ℕ) (a b : JobState) (all new lines_new : List Line) (held held_new : Option (List ℕ)) → Stands settings text a → (fed : Fed settings a b new lines_new held held_new)
    → lines_new ≡ [] → all ≡ settled text ++ new
    → (e : Ending) (rs : List Line) → written_lines settings e (all ++ rs) ≡ (written_lines settings More (settled text) ++ fed.outputs) ++ lines_from_stage settings b.stage e rs
output_line_on settings text a b all new lines_new held held_new stands fed none is e rs =
    let T = written_lines settings More (settled text) in
    ap (λ (l : List Line). written_lines settings e (l ++ rs)) is
    ∙ ap (written_lines settings e) (append_assoc (settled text) new rs)
    ∙ stands.rest e (new ++ rs)
    ∙ ap (λ (l : List OutputLine). T ++ l) (fed.same e rs ∙ ap (λ (l : List Line). fed.outputs ++ lines_from_stage settings b.stage e (l ++ rs)) none)
    ∙ sym (append_assoc T fed.outputs (lines_from_stage settings b.stage e rs))

output_line_now : (settings : Settings) (text : List ℕ) (a b : JobState) (all new lines_new : List Line) (held held_new : Option (List ℕ)) → Stands settings text a → (fed : Fed settings a b new lines_new held held_new)
    → lines_new ≡ [] → all ≡ settled text ++ new → (e : Ending) → written_lines settings e all ≡ (written_lines settings More (settled text) ++ fed.outputs) ++ lines_from_stage settings b.stage e []
output_line_now settings text a b all new lines_new held held_new stands fed none is e =
    ap (written_lines settings e) (sym (append-nil all)) ∙ output_line_on settings text a b all new lines_new held held_new stands fed none is e []

output_line_quiet : (settings : Settings) (text : List ℕ) (a b : JobState) (all new lines_new : List Line) (held held_new : Option (List ℕ)) → Stands settings text a → (fed : Fed settings a b new lines_new held held_new)
    → lines_new ≡ [] → all ≡ settled text ++ new → written_lines settings More all ≡ written_lines settings More (settled text) ++ fed.outputs
output_line_quiet settings text a b all new lines_new held held_new stands fed none is =
    let X = written_lines settings More (settled text) ++ fed.outputs in
    output_line_now settings text a b all new lines_new held held_new stands fed none is More ∙ ap (λ (l : List OutputLine). X ++ l) (quiet settings b.stage) ∙ append-nil X

-- ---- the work of all lines of a longer text

works_on : (settings : Settings) (text : List ℕ) (a b : JobState) (all new lines_new : List Line) (steps steps_new : ℕ) → Stands settings text a
    → (spent : Spends (work_from_stage settings a.stage) (work_from_stage settings b.stage) new lines_new steps steps_new)
    → lines_new ≡ [] → all ≡ settled text ++ new → (rs : List Line) → work settings (all ++ rs) ≡ (work_at settings text + spent.work) + work_from_stage settings b.stage rs
works_on settings text a b all new lines_new steps steps_new stands spent none is rs =
    let whole : work settings (all ++ rs) ≡ work_at settings text + work_from_stage settings a.stage (new ++ rs) =
    ap (λ (l : List Line). work settings (l ++ rs)) is ∙ ap (work settings) (append_assoc (settled text) new rs) ∙ stands.works (new ++ rs) in
    let rest : work_from_stage settings a.stage (new ++ rs) ≡ spent.work + work_from_stage settings b.stage rs =
    spent.same rs ∙ ap (λ (l : List Line). spent.work + work_from_stage settings b.stage (l ++ rs)) none in
    omega (arith, whole, rest)

works_now : (settings : Settings) (text : List ℕ) (a b : JobState) (all new lines_new : List Line) (steps steps_new : ℕ) → Stands settings text a
    → (spent : Spends (work_from_stage settings a.stage) (work_from_stage settings b.stage) new lines_new steps steps_new)
    → lines_new ≡ [] → all ≡ settled text ++ new → work settings all ≡ work_at settings text + spent.work
works_now settings text a b all new lines_new steps steps_new stands spent none is =
    let whole = works_on settings text a b all new lines_new steps steps_new stands spent none is [] in
    let same : work settings all ≡ work settings (all ++ []) = ap (work settings) (sym (append-nil all)) in
    let left_none = nothing_left settings b.stage in
    omega (arith, whole, same, left_none)

-- the steps that were taken for the lines that a text has more
pub spent_more : {X E : Type 0} (settings : Settings) (text : List ℕ) (a b : JobState) (all new lines_new : List Line) (r : Result X E) (steps steps_new : ℕ) → Stands settings text a
    → all ≡ settled text ++ new → OnOk r (lines_new ≡ [])
    → OnOk r (Spends (work_from_stage settings a.stage) (work_from_stage settings b.stage) new lines_new steps steps_new)
    → OnErr r (SpendsAtMost (work_from_stage settings a.stage) new steps steps_new)
    → SpendsOnText steps steps_new (work_at settings text) (work settings all)
spent_more settings text a b all new lines_new (Ok x) steps steps_new stands is none spent most =
    let now = works_now settings text a b all new lines_new steps steps_new stands spent none is in
    let within = spent.within in
    omega (arith, now, within)
spent_more settings text a b all new lines_new (Err e) steps steps_new stands is none spent most =
    let now : work settings all ≡ work_at settings text + work_from_stage settings a.stage new = ap (work settings) is ∙ stands.works new in
    let few : steps_new ≤ steps + work_from_stage settings a.stage new =
    subst (λ (l : List Line). steps_new ≤ steps + work_from_stage settings a.stage l) (append-nil new) (most []) in
    omega (arith, now, few)

pub stands_next : (settings : Settings) (text whole : List ℕ) (a b : JobState) (new lines_new : List Line) (held held_new : Option (List ℕ)) (steps steps_new : ℕ) → Stands settings text a
    → Fed settings a b new lines_new held held_new → Spends (work_from_stage settings a.stage) (work_from_stage settings b.stage) new lines_new steps steps_new
    → lines_new ≡ [] → settled whole ≡ settled text ++ new → IsKeptAt b.stage → Stands settings whole b
stands_next settings text whole a b new lines_new held held_new steps steps_new stands fed spent none is kept =
    let T = written_lines settings More (settled text) in
    let now = output_line_quiet settings text a b (settled whole) new lines_new held held_new stands fed none is in
    record {
      kept = kept;
      rest = λ e rs. output_line_on settings text a b (settled whole) new lines_new held held_new stands fed none is e rs
          ∙ ap (λ (l : List OutputLine). l ++ lines_from_stage settings b.stage e rs) (sym now);
      works = λ rs.
          let all = works_on settings text a b (settled whole) new lines_new steps steps_new stands spent none is rs in
          let so_far = works_now settings text a b (settled whole) new lines_new steps steps_new stands spent none is in
          omega (arith, all, so_far);
      comes = fed.comes ∙ ap (λ (s : Option Status). come_to s fed.outputs) stands.comes ∙ sym (come_on None T fed.outputs) ∙ ap (come_to None) (sym now);
    }

grew_next : (settings : Settings) (text whole : List ℕ) (a b : JobState) (new lines_new : List Line) (held held_new : Option (List ℕ)) → Stands settings text a → Fed settings a b new lines_new held held_new
    → lines_new ≡ [] → settled whole ≡ settled text ++ new → Grew held held_new (written_at More settings text) (written_at More settings whole)
grew_next settings text whole a b new lines_new held held_new stands fed none is =
    record {
      wrote = printed_all fed.outputs;
      grew = fed.grew;
      whole = sym (flat_map-append printed (written_lines settings More (settled text)) fed.outputs) ∙ ap printed_all (sym (output_line_quiet settings text a b (settled whole) new lines_new held held_new stands fed none is));
    }

front_next : (settings : Settings) (text : List ℕ) (a : JobState) (all new : List Line) (held held_new : Option (List ℕ)) (e : Ending) → Stands settings text a → all ≡ settled text ++ new
    → GrowsByFront held held_new (printed_all (lines_from_stage settings a.stage e new)) → GrewByFront held held_new (written_at More settings text) (printed_all (written_lines settings e all))
front_next settings text a all new held held_new e stands is grew =
    record {
      rest = printed_all (lines_from_stage settings a.stage e new);
      grew = grew;
      whole = sym (flat_map-append printed (written_lines settings More (settled text)) (lines_from_stage settings a.stage e new)) ∙ ap printed_all (sym (ap (written_lines settings e) is ∙ stands.rest e new));
    }

-- ---- a piece

-- the settled lines of the text with a piece are those of the text and those that are left
piece_lines : (old mid : Stream) (piece : List ℕ) → IsRead old → length old.bytes + length piece ≤ most_bytes → mid ≡ record old { bytes = old.bytes ++ piece }
    → settled (old.bytes ++ piece) ≡ settled old.bytes ++ left mid
piece_lines old mid piece read size is =
    let going : mid ≡ record old { bytes = old.bytes ++ piece; ended = false } = is ∙ ap (λ (c : Bool). record old { bytes = old.bytes ++ piece; ended = c }) read.open_ended in
    settled_is (old.bytes ++ piece) (omega (arith, size, length-append old.bytes piece))
    ∙ read_more old false piece read
    ∙ ap (λ (s : Stream). lines_of false old.bytes ++ left s) (sym going)
    ∙ ap (λ (l : List Line). l ++ left mid) (sym (settled_is old.bytes (omega (arith, size))))

pub piece_within : (old mid : Stream) (piece : List ℕ) → IsRead old → mid ≡ record old { bytes = old.bytes ++ piece } → IsWithin mid
piece_within old mid piece read is =
    subst IsWithin (sym (is ∙ ap (λ (c : Bool). record old { bytes = old.bytes ++ piece; ended = c }) read.open_ended)) (more_within old false piece read)

pub piece_stands : {E : Type 0} (settings : Settings) (old mid new : Stream) (piece : List ℕ) (a c : JobState) (r : Result (Unit {0}) E) (held held_new : Option (List ℕ)) (steps steps_new : ℕ)
    → Stands settings old.bytes a → IsRead old → length old.bytes + length piece ≤ most_bytes → mid ≡ record old { bytes = old.bytes ++ piece }
    → OnOk r (Fed settings a c (left mid) (left new) held held_new)
    → OnOk r (Spends (work_from_stage settings a.stage) (work_from_stage settings c.stage) (left mid) (left new) steps steps_new)
    → OnOk r (left new ≡ []) → IfOk r (λ u. IsKeptAt c.stage) → OnOk r (Stands settings (old.bytes ++ piece) c)
piece_stands settings old mid new piece a c (Ok u) held held_new steps steps_new stands read size is fed spent none kept =
    stands_next settings old.bytes (old.bytes ++ piece) a c (left mid) (left new) held held_new steps steps_new stands fed spent none (piece_lines old mid piece read size is) kept
piece_stands settings old mid new piece a c (Err e) held held_new steps steps_new stands read size is fed spent none kept = tt

pub piece_spent : {X E : Type 0} (settings : Settings) (old mid new : Stream) (piece : List ℕ) (a c : JobState) (r : Result X E) (steps steps_new : ℕ)
    → Stands settings old.bytes a → IsRead old → length old.bytes + length piece ≤ most_bytes → mid ≡ record old { bytes = old.bytes ++ piece }
    → OnOk r (left new ≡ []) → OnOk r (Spends (work_from_stage settings a.stage) (work_from_stage settings c.stage) (left mid) (left new) steps steps_new)
    → OnErr r (SpendsAtMost (work_from_stage settings a.stage) (left mid) steps steps_new)
    → SpendsOnText steps steps_new (work_at settings old.bytes) (work_at settings (old.bytes ++ piece))
piece_spent settings old mid new piece a c r steps steps_new stands read size is none spent most =
    spent_more settings old.bytes a c (settled (old.bytes ++ piece)) (left mid) (left new) r steps steps_new stands (piece_lines old mid piece read size is) none spent most

-- without a step
pub piece_unspent : (settings : Settings) (text piece : List ℕ) (steps : ℕ) → SpendsOnText steps steps (work_at settings text) (work_at settings (text ++ piece))
piece_unspent settings text piece steps = let more = (work_grows settings text piece).longer in omega (arith, more)

pub piece_grew : {E : Type 0} (settings : Settings) (old mid new : Stream) (piece : List ℕ) (a c : JobState) (r : Result (Unit {0}) E) (held held_new : Option (List ℕ))
    → Stands settings old.bytes a → IsRead old → length old.bytes + length piece ≤ most_bytes → mid ≡ record old { bytes = old.bytes ++ piece }
    → OnOk r (Fed settings a c (left mid) (left new) held held_new) → OnOk r (left new ≡ [])
    → OnOk r (Grew held held_new (written_at More settings old.bytes) (written_at More settings (old.bytes ++ piece)))
piece_grew settings old mid new piece a c (Ok u) held held_new stands read size is fed none =
    grew_next settings old.bytes (old.bytes ++ piece) a c (left mid) (left new) held held_new stands fed none (piece_lines old mid piece read size is)
piece_grew settings old mid new piece a c (Err e) held held_new stands read size is fed none = tt

pub piece_read : {X E : Type 0} (old mid new : Stream) (piece : List ℕ) (r : Result X E) → IsRead old → mid ≡ record old { bytes = old.bytes ++ piece }
    → new.ended ≡ mid.ended → IsWithin new → OnOk r (left new ≡ []) → OnOk r (IsRead new)
piece_read old mid new piece (Ok x) read is ended within none = all_read new (ended ∙ ap (λ (s : Stream). s.ended) is ∙ read.open_ended) within none
piece_read old mid new piece (Err e) read is ended within none = tt

-- a front of what the piece settles was written
pub piece_front : {X E : Type 0} (settings : Settings) (old mid : Stream) (piece : List ℕ) (a : JobState) (r : Result X E) (held held_new : Option (List ℕ))
    → Stands settings old.bytes a → IsRead old → length old.bytes + length piece ≤ most_bytes → mid ≡ record old { bytes = old.bytes ++ piece }
    → OnErr r ((e : Ending) → GrowsByFront held held_new (printed_all (lines_from_stage settings a.stage e (left mid))))
    → OnErr r ((e : Ending) → GrewByFront held held_new (written_at More settings old.bytes) (written_at e settings (old.bytes ++ piece)))
piece_front settings old mid piece a (Ok x) held held_new stands read size is grew = tt
piece_front settings old mid piece a (Err x) held held_new stands read size is grew = λ e.
    front_next settings old.bytes a (settled (old.bytes ++ piece)) (left mid) held held_new e stands (piece_lines old mid piece read size is) (grew e)

-- nothing was written
pub piece_lost : (settings : Settings) (old : Stream) (piece : List ℕ) (a : JobState) (held : Option (List ℕ))
    → Stands settings old.bytes a → IsRead old → length old.bytes + length piece ≤ most_bytes
    → (e : Ending) → GrewByFront held held (written_at More settings old.bytes) (written_at e settings (old.bytes ++ piece))
piece_lost settings old piece a held stands read size e =
    let mid : Stream = record old { bytes = old.bytes ++ piece } in
    front_next settings old.bytes a (settled (old.bytes ++ piece)) (left mid) held held e stands (piece_lines old mid piece read size refl)
    (nothing_written held (printed_all (lines_from_stage settings a.stage e (left mid))))

-- ---- what all lines come to

stays_refused : (output_line : List OutputLine) → come_to (Some status.Refused) output_line ≡ Some status.Refused
stays_refused [] = refl
stays_refused (x ∷ output_line) = stays_refused output_line

stays_denied : (output_line : List OutputLine) → come_to (Some status.EditRefused) output_line ≡ Some status.EditRefused
stays_denied [] = refl
stays_denied (x ∷ output_line) = stays_denied output_line

taken_next : (x : OutputLine) (output_line : List OutputLine) (c : Bool) → is_refusal x ≡ c → come_to (Some status.Done) output_line ≡ Some (if list_any is_refusal output_line then status.EditRefused else status.Done)
    → come_to (Some status.Done) (x ∷ output_line) ≡ Some (if list_any is_refusal (x ∷ output_line) then status.EditRefused else status.Done)
taken_next x output_line true h rest =
    ap (λ (c : Bool). come_to (Some (if c then status.EditRefused else status.Done)) output_line) h ∙ stays_denied output_line
    ∙ ap (λ (c : Bool). Some (if c || list_any is_refusal output_line then status.EditRefused else status.Done)) (sym h)
taken_next x output_line false h rest =
    ap (λ (c : Bool). come_to (Some (if c then status.EditRefused else status.Done)) output_line) h ∙ rest
    ∙ ap (λ (c : Bool). Some (if c || list_any is_refusal output_line then status.EditRefused else status.Done)) (sym h)

taken_first : (output_line : List OutputLine) → come_to (Some status.Done) output_line ≡ Some (if list_any is_refusal output_line then status.EditRefused else status.Done)
taken_first [] = refl
taken_first (x ∷ output_line) = taken_next x output_line (is_refusal x) refl (taken_first output_line)

begun_status : (x : OutputLine) (output_line : List OutputLine) (c : Bool) → is_refusal x ≡ c
    → come_to None (x ∷ output_line) ≡ Some (if c then status.Refused else if list_any is_refusal output_line then status.EditRefused else status.Done)
begun_status x output_line true h = ap (λ (c : Bool). come_to (Some (if c then status.Refused else status.Done)) output_line) h ∙ stays_refused output_line
begun_status x output_line false h = ap (λ (c : Bool). come_to (Some (if c then status.Refused else status.Done)) output_line) h ∙ taken_first output_line

status_is : (output_line : List OutputLine) → status_at (come_to None output_line) ≡ status_of output_line
status_is [] = refl
status_is (x ∷ output_line) = ap status_at (begun_status x output_line (is_refusal x) refl)

refused_if : (a b : Bool) → is_refused (Some (if a then status.Refused else if b then status.EditRefused else status.Done)) ≡ a
refused_if true b = refl
refused_if false true = refl
refused_if false false = refl

pub refused_is : (output_line : List OutputLine) → is_refused (come_to None output_line) ≡ begins_refused output_line
refused_is [] = refl
refused_is (x ∷ output_line) = ap is_refused (begun_status x output_line (is_refusal x) refl) ∙ refused_if (is_refusal x) (list_any is_refusal output_line)

-- ---- the end

end_status : (settings : Settings) (X all : List OutputLine) (b : JobState) (e : Ending) (s : Status) → b.status ≡ come_to None X → all ≡ X ++ lines_from_stage settings b.stage e []
    → s ≡ status_at (come_to b.status (lines_from_stage settings b.stage e [])) → s ≡ status_of all
end_status settings X all b e s comes is h =
    let tail = lines_from_stage settings b.stage e [] in
    h ∙ ap (λ (o : Option Status). status_at (come_to o tail)) comes ∙ ap status_at (sym (come_on None X tail) ∙ ap (come_to None) (sym is)) ∙ status_is all

end_grew : (held held_now held_new : Option (List ℕ)) (before : List ℕ) (X tail all : List OutputLine) → Grew held held_now before (printed_all X) → all ≡ X ++ tail
    → Appends held_now held_new (printed_all tail) → Grew held held_new before (printed_all all)
end_grew held held_now held_new before X tail all grew is end =
    record {
      wrote = grew.wrote ++ printed_all tail;
      grew = Appends-trans held held_now held_new grew.wrote (printed_all tail) grew.grew end;
      whole = sym (append_assoc before grew.wrote (printed_all tail)) ∙ ap (λ (l : List ℕ). l ++ printed_all tail) grew.whole
          ∙ sym (flat_map-append printed X tail) ∙ ap printed_all (sym is);
    }

end_front : (held held_now held_new : Option (List ℕ)) (before : List ℕ) (X tail all : List OutputLine) → Grew held held_now before (printed_all X) → all ≡ X ++ tail
    → GrowsByFront held_now held_new (printed_all tail) → GrewByFront held held_new before (printed_all all)
end_front held held_now held_new before X tail all grew is end =
    record {
      rest = grew.wrote ++ printed_all tail;
      grew = front_after held held_now held_new grew.wrote (printed_all tail) grew.grew end;
      whole = sym (append_assoc before grew.wrote (printed_all tail)) ∙ ap (λ (l : List ℕ). l ++ printed_all tail) grew.whole
          ∙ sym (flat_map-append printed X tail) ∙ ap printed_all (sym is);
    }

-- a text with more bytes

last_output_line_is : (settings : Settings) (text : List ℕ) (b : JobState) → Stands settings text b → written_lines settings Over (settled text) ≡ written_lines settings More (settled text) ++ lines_from_stage settings b.stage Over []
last_output_line_is settings text b stands = ap (written_lines settings Over) (sym (append-nil (settled text))) ∙ stands.rest Over []

pub last_status : {E : Type 0} (settings : Settings) (text : List ℕ) (b : JobState) (r : Result Status E) → Stands settings text b
    → IfOk r (λ s. (settings : Settings) → s ≡ status_at (come_to b.status (lines_from_stage settings b.stage Over []))) → IfOk r (λ s. s ≡ status_of (written_lines settings Over (settled text)))
last_status settings text b (Ok s) stands h = end_status settings (written_lines settings More (settled text)) (written_lines settings Over (settled text)) b Over s stands.comes (last_output_line_is settings text b stands) (h settings)
last_status settings text b (Err e) stands h = tt

pub last_grew : {E : Type 0} (settings : Settings) (text : List ℕ) (b : JobState) (r : Result Status E) (held held_now held_new : Option (List ℕ)) (before : List ℕ) → Stands settings text b
    → Grew held held_now before (written_at More settings text) → OnOk r ((settings : Settings) → Appends held_now held_new (printed_all (lines_from_stage settings b.stage Over [])))
    → OnOk r (Grew held held_new before (written_at Over settings text))
last_grew settings text b (Ok s) held held_now held_new before stands grew end =
    end_grew held held_now held_new before (written_lines settings More (settled text)) (lines_from_stage settings b.stage Over []) (written_lines settings Over (settled text)) grew (last_output_line_is settings text b stands) (end settings)
last_grew settings text b (Err e) held held_now held_new before stands grew end = tt

pub last_front : {E : Type 0} (settings : Settings) (text : List ℕ) (b : JobState) (r : Result Status E) (held held_now held_new : Option (List ℕ)) (before : List ℕ) → Stands settings text b
    → Grew held held_now before (written_at More settings text) → OnErr r ((settings : Settings) → GrowsByFront held_now held_new (printed_all (lines_from_stage settings b.stage Over [])))
    → OnErr r (GrewByFront held held_new before (written_at Over settings text))
last_front settings text b (Ok s) held held_now held_new before stands grew end = tt
last_front settings text b (Err e) held held_now held_new before stands grew end =
    end_front held held_now held_new before (written_lines settings More (settled text)) (lines_from_stage settings b.stage Over []) (written_lines settings Over (settled text)) grew (last_output_line_is settings text b stands) (end settings)

-- the end of a text

text_lines : (old mid : Stream) → IsRead old → length old.bytes ≤ most_bytes → mid ≡ record old { ended = true } → lines_of true old.bytes ≡ settled old.bytes ++ left mid
text_lines old mid read size is =
    let same : record old { bytes = old.bytes ++ []; ended = true } ≡ mid = ap (λ (l : List ℕ). record old { bytes = l; ended = true }) (append-nil old.bytes) ∙ sym is in
    ap (lines_of true) (sym (append-nil old.bytes)) ∙ read_more old true [] read ∙ ap (λ (s : Stream). lines_of false old.bytes ++ left s) same
    ∙ ap (λ (l : List Line). l ++ left mid) (sym (settled_is old.bytes size))

pub text_within : (old mid : Stream) → IsRead old → mid ≡ record old { ended = true } → IsWithin mid
text_within old mid read is =
    subst IsWithin (ap (λ (l : List ℕ). record old { bytes = l; ended = true }) (append-nil old.bytes) ∙ sym is) (more_within old true [] read)

text_output_line : (settings : Settings) (old mid new : Stream) (a b : JobState) (held held_now : Option (List ℕ)) → Stands settings old.bytes a → IsRead old → length old.bytes ≤ most_bytes
    → mid ≡ record old { ended = true } → (fed : Fed settings a b (left mid) (left new) held held_now) → left new ≡ []
    → output_lines old.bytes settings ≡ (written_lines settings More (settled old.bytes) ++ fed.outputs) ++ lines_from_stage settings b.stage Ended []
text_output_line settings old mid new a b held held_now stands read size is fed none =
    output_at settings old.bytes size
    ∙ output_line_now settings old.bytes a b (lines_of true old.bytes) (left mid) (left new) held held_now stands fed none (text_lines old mid read size is) Ended

text_grew : (settings : Settings) (text : List ℕ) (a b : JobState) (new lines_new : List Line) (held held_now : Option (List ℕ)) → (fed : Fed settings a b new lines_new held held_now)
    → Grew held held_now (written_at More settings text) (printed_all (written_lines settings More (settled text) ++ fed.outputs))
text_grew settings text a b new lines_new held held_now fed =
    record { wrote = printed_all fed.outputs; grew = fed.grew; whole = sym (flat_map-append printed (written_lines settings More (settled text)) fed.outputs) }

pub text_status : {E : Type 0} (settings : Settings) (old mid new : Stream) (a b : JobState) (r : Result Status E) (held held_now : Option (List ℕ)) → Stands settings old.bytes a → IsRead old
    → length old.bytes ≤ most_bytes → mid ≡ record old { ended = true } → Fed settings a b (left mid) (left new) held held_now → left new ≡ []
    → IfOk r (λ s. (settings : Settings) → s ≡ status_at (come_to b.status (lines_from_stage settings b.stage Ended []))) → IfOk r (λ s. s ≡ end_of old.bytes settings)
text_status settings old mid new a b (Ok s) held held_now stands read size is fed none h =
    let T = written_lines settings More (settled old.bytes) in
    end_status settings (T ++ fed.outputs) (output_lines old.bytes settings) b Ended s
    (fed.comes ∙ ap (λ (o : Option Status). come_to o fed.outputs) stands.comes ∙ sym (come_on None T fed.outputs))
    (text_output_line settings old mid new a b held held_now stands read size is fed none) (h settings)
text_status settings old mid new a b (Err e) held held_now stands read size is fed none h = tt

pub text_wrote : {E : Type 0} (settings : Settings) (old mid new : Stream) (a b : JobState) (r : Result Status E) (held held_now held_new : Option (List ℕ)) → Stands settings old.bytes a → IsRead old
    → length old.bytes ≤ most_bytes → mid ≡ record old { ended = true } → Fed settings a b (left mid) (left new) held held_now → left new ≡ []
    → OnOk r ((settings : Settings) → Appends held_now held_new (printed_all (lines_from_stage settings b.stage Ended []))) → OnOk r (Grew held held_new (written_at More settings old.bytes) (output old.bytes settings))
text_wrote settings old mid new a b (Ok s) held held_now held_new stands read size is fed none end =
    end_grew held held_now held_new (written_at More settings old.bytes) (written_lines settings More (settled old.bytes) ++ fed.outputs) (lines_from_stage settings b.stage Ended []) (output_lines old.bytes settings)
    (text_grew settings old.bytes a b (left mid) (left new) held held_now fed) (text_output_line settings old mid new a b held held_now stands read size is fed none) (end settings)
text_wrote settings old mid new a b (Err e) held held_now held_new stands read size is fed none end = tt

pub text_front : {E : Type 0} (settings : Settings) (old mid new : Stream) (a b : JobState) (r : Result Status E) (held held_now held_new : Option (List ℕ)) → Stands settings old.bytes a → IsRead old
    → length old.bytes ≤ most_bytes → mid ≡ record old { ended = true } → Fed settings a b (left mid) (left new) held held_now → left new ≡ []
    → OnErr r ((settings : Settings) → GrowsByFront held_now held_new (printed_all (lines_from_stage settings b.stage Ended []))) → OnErr r (GrewByFront held held_new (written_at More settings old.bytes) (output old.bytes settings))
text_front settings old mid new a b (Ok s) held held_now held_new stands read size is fed none end = tt
text_front settings old mid new a b (Err e) held held_now held_new stands read size is fed none end =
    end_front held held_now held_new (written_at More settings old.bytes) (written_lines settings More (settled old.bytes) ++ fed.outputs) (lines_from_stage settings b.stage Ended []) (output_lines old.bytes settings)
    (text_grew settings old.bytes a b (left mid) (left new) held held_now fed) (text_output_line settings old mid new a b held held_now stands read size is fed none) (end settings)

-- a front of the lines after the piece before was written
pub text_cut : (settings : Settings) (old mid : Stream) (a : JobState) (held held_new : Option (List ℕ)) → Stands settings old.bytes a → IsRead old → length old.bytes ≤ most_bytes
    → mid ≡ record old { ended = true } → ((e : Ending) → GrowsByFront held held_new (printed_all (lines_from_stage settings a.stage e (left mid))))
    → GrewByFront held held_new (written_at More settings old.bytes) (output old.bytes settings)
text_cut settings old mid a held held_new stands read size is grew =
    subst (λ (l : List OutputLine). GrewByFront held held_new (written_at More settings old.bytes) (printed_all l)) (sym (output_at settings old.bytes size))
    (front_next settings old.bytes a (lines_of true old.bytes) (left mid) held held_new Ended stands (text_lines old mid read size is) (grew Ended))

pub text_spent : {X E : Type 0} (settings : Settings) (old mid new : Stream) (a c : JobState) (r : Result X E) (steps steps_new : ℕ)
    → Stands settings old.bytes a → IsRead old → length old.bytes ≤ most_bytes → mid ≡ record old { ended = true }
    → OnOk r (left new ≡ []) → OnOk r (Spends (work_from_stage settings a.stage) (work_from_stage settings c.stage) (left mid) (left new) steps steps_new)
    → OnErr r (SpendsAtMost (work_from_stage settings a.stage) (left mid) steps steps_new)
    → SpendsOnText steps steps_new (work_at settings old.bytes) (bound_of old.bytes settings)
text_spent settings old mid new a c r steps steps_new stands read size is none spent most =
    subst (λ (l : List Line). SpendsOnText steps steps_new (work_at settings old.bytes) (work settings l)) (sym (lines_is old.bytes size))
    (spent_more settings old.bytes a c (lines_of true old.bytes) (left mid) (left new) r steps steps_new stands (text_lines old mid read size is) none spent most)
