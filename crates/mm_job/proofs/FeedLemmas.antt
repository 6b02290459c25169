-- A step of a job goes on with what it was fed.
use Rattle.std.proofs.Common.{◌≡◌, ℕ, zero, suc, ◌+◌, ◌<◌, ◌≤◌, List, [], ◌∷◌, ◌++◌, length, drop, Option, Some, None, refl, sym, ap, ◌∙◌, subst, arith}
use Rattle.std.specs.Prelude.{OnErr, Ok, Err}
use Rattle.std.specs.List.{slice_get}
use Rattle.std.specs.declared.result.Result.{Result}
use Rattle.std.specs.Io.KnownBytes.{Appends}
use Rattle.std.proofs.KnownBytes.{Appends-nil, Appends-trans}
use Rattle.std.proofs.lemmas.List.{append_assoc, append-nil, length-drop}
use Rattle.std.proofs.lemmas.Option.{none-some, same_Some}
use Rattle.std.proofs.lemmas.Grind.{flat_map-append}
use Rattle.mm_base.specs.Causes.{GrowsByFront, Rose}
use Rattle.mm_base.proofs.FrontLemmas.{front_after, front_more}
use Rattle.mm_base.specs.declared.status.Status.{Status}
use Rattle.mm_lines.specs.declared.line.Line.{Line}
use Rattle.mm_lines.specs.Lines.{lines_of}
use Rattle.mm_lines.specs.Streams.{Stream, next_of, after_line}
use Rattle.mm_job.specs.State.JobStates.{after_output_line, come_to}
use Rattle.mm_job.specs.State.Feeding.{Fed, IsWithin, left}
use Rattle.mm_job.specs.Jobs.{HasJobCause}
use Rattle.mm_job.specs.Output.{Ending, printed, printed_all}
use Rattle.mm_job.specs.State.Stages.{lines_from_stage}
use Rattle.mm_job.specs.declared.state.JobState.{JobState}
use Rattle.mm_job.specs.declared.progress.JobFault.{JobFault}
use Rattle.mm_job.specs.declared.output_line.OutputLine.{OutputLine}
use Rattle.mm_job.specs.Settings.{Settings}

-- ---- the lines that are left

next_left : {A : Type 0} (xs : List A) (i : ℕ) (x : A) → slice_get xs i ≡ Some x → drop i xs ≡ x ∷ drop (i + 1) xs
next_left [] i x h = absurd (none-some x h)
next_left (y ∷ xs) zero x h = ap (λ z. z ∷ xs) (same_Some y x h)
next_left (y ∷ xs) (suc i) x h = next_left xs i x h ∙ ap (λ (k : ℕ). x ∷ drop k (y ∷ xs)) {x = suc (i + 1)} {y = suc i + 1} (omega arith)

none_left : {A : Type 0} (xs : List A) (i : ℕ) → slice_get xs i ≡ None → drop i xs ≡ []
none_left [] zero h = refl
none_left [] (suc i) h = refl
none_left (y ∷ xs) zero h = absurd (none-some y (sym h))
none_left (y ∷ xs) (suc i) h = none_left xs i h

pub line_left : (s new : Stream) (o : Option Line) (r : Line) → o ≡ next_of s → new ≡ after_line o s → o ≡ Some r → left s ≡ r ∷ left new
line_left s new o r is handed some =
    let n : new ≡ record s { handed = s.handed + 1 } = handed ∙ ap (λ (p : Option Line). after_line p s) some in
    next_left (lines_of s.ended s.bytes) s.handed r (sym is ∙ some) ∙ ap (λ (t : Stream). r ∷ left t) (sym n)

pub all_left : (s new : Stream) (o : Option Line) → o ≡ next_of s → new ≡ after_line o s → o ≡ None → (left s ≡ []) × (left new ≡ [])
all_left s new o is handed none =
    let n : new ≡ s = handed ∙ ap (λ (p : Option Line). after_line p s) none in
    let empty : left s ≡ [] = none_left (lines_of s.ended s.bytes) s.handed (sym is ∙ none) in
    (empty, ap (λ (t : Stream). left t) n ∙ empty)

pub shorter : (s new : Stream) (r : Line) → left s ≡ r ∷ left new → length (left new) < length (left s)
shorter s new r h = omega (arith, ap length h)

some_within : {A : Type 0} (xs : List A) (i : ℕ) (x : A) → drop i xs ≡ x ∷ drop (i + 1) xs → i + 1 ≤ length xs
some_within xs i x h = omega (arith, ap length h, length-drop i xs)

pub still_within : (s new : Stream) (o p : Option Line) → p ≡ o → o ≡ next_of s → new ≡ after_line o s → IsWithin s → IsWithin new
still_within s new o None same is handed h = subst IsWithin (sym (handed ∙ ap (λ (p : Option Line). after_line p s) (sym same))) h
still_within s new o (Some r) same is handed h =
    subst IsWithin (sym (handed ∙ ap (λ (p : Option Line). after_line p s) (sym same)))
    (some_within (lines_of s.ended s.bytes) s.handed r (next_left (lines_of s.ended s.bytes) s.handed r (sym is ∙ sym same)))

-- ---- what lines come to

pub come_on : (status : Option Status) (xs ys : List OutputLine) → come_to status (xs ++ ys) ≡ come_to (come_to status xs) ys
come_on status [] ys = refl
come_on status (x ∷ xs) ys = come_on (after_output_line status x) xs ys

-- ---- steps

pub nothing_written : (held : Option (List ℕ)) (bs : List ℕ) → GrowsByFront held held bs
nothing_written held bs = (0, Appends-nil held)

pub fed_nothing : (settings : Settings) (state : JobState) (lines : List Line) (held : Option (List ℕ)) → Fed settings state state lines lines held held
fed_nothing settings state lines held = record { outputs = []; grew = Appends-nil held; same = λ e rs. refl; comes = refl }

printed_on : (held held_new : Option (List ℕ)) (xs ys : List OutputLine) → Appends held held_new (printed_all xs ++ printed_all ys) → Appends held held_new (printed_all (xs ++ ys))
printed_on held held_new xs ys h = subst (λ (l : List ℕ). Appends held held_new l) (sym (flat_map-append printed xs ys)) h

-- one step and more
pub fed_trans : (settings : Settings) (a b c : JobState) (lines lines_now lines_after : List Line) (held held_now held_after : Option (List ℕ))
    → Fed settings a b lines lines_now held held_now → Fed settings b c lines_now lines_after held_now held_after → Fed settings a c lines lines_after held held_after
fed_trans settings a b c lines lines_now lines_after held held_now held_after p q =
    record {
      outputs = p.outputs ++ q.outputs;
      grew = printed_on held held_after p.outputs q.outputs (Appends-trans held held_now held_after (printed_all p.outputs) (printed_all q.outputs) p.grew q.grew);
      same = λ e rs. p.same e rs ∙ ap (λ (l : List OutputLine). p.outputs ++ l) (q.same e rs) ∙ sym (append_assoc p.outputs q.outputs (lines_from_stage settings c.stage e (lines_after ++ rs)));
      comes = q.comes ∙ ap (λ (s : Option Status). come_to s q.outputs) p.comes ∙ sym (come_on a.status p.outputs q.outputs);
    }

-- what is written of the lines is what is written of the first of them and what is written after it
written_on : (settings : Settings) (old new : JobState) (lines lines_now : List Line) (held held_now : Option (List ℕ)) → (fed : Fed settings old new lines lines_now held held_now)
    → (e : Ending) → printed_all (lines_from_stage settings old.stage e lines) ≡ printed_all fed.outputs ++ printed_all (lines_from_stage settings new.stage e lines_now)
written_on settings old new lines lines_now held held_now fed e =
    ap (λ (l : List Line). printed_all (lines_from_stage settings old.stage e l)) (sym (append-nil lines)) ∙ ap printed_all (fed.same e [])
    ∙ ap (λ (l : List Line). printed_all (fed.outputs ++ lines_from_stage settings new.stage e l)) (append-nil lines_now) ∙ flat_map-append printed fed.outputs (lines_from_stage settings new.stage e lines_now)

-- what was written before, and a front of what is written then
pub front_then : (settings : Settings) (old new : JobState) (lines lines_now : List Line) (held held_now held_after : Option (List ℕ)) → Fed settings old new lines lines_now held held_now
    → ((e : Ending) → GrowsByFront held_now held_after (printed_all (lines_from_stage settings new.stage e lines_now)))
    → (e : Ending) → GrowsByFront held held_after (printed_all (lines_from_stage settings old.stage e lines))
front_then settings old new lines lines_now held held_now held_after fed grew e =
    subst (λ (l : List ℕ). GrowsByFront held held_after l) (sym (written_on settings old new lines lines_now held held_now fed e))
    (front_after held held_now held_after (printed_all fed.outputs) (printed_all (lines_from_stage settings new.stage e lines_now)) fed.grew (grew e))

-- a front of what is said of a line was written
pub front_line : (settings : Settings) (old new : JobState) (r : Line) (output_line : List OutputLine) (held held_new : Option (List ℕ))
    → ((e : Ending) (rs : List Line) → lines_from_stage settings old.stage e (r ∷ rs) ≡ output_line ++ lines_from_stage settings new.stage e rs)
    → GrowsByFront held held_new (printed_all output_line) → (e : Ending) (rs : List Line) → GrowsByFront held held_new (printed_all (lines_from_stage settings old.stage e (r ∷ rs)))
front_line settings old new r output_line held held_new step grew e rs =
    subst (λ (l : List ℕ). GrowsByFront held held_new l) (sym (ap printed_all (step e rs) ∙ flat_map-append printed output_line (lines_from_stage settings new.stage e rs)))
    (front_more held held_new (printed_all output_line) (printed_all (lines_from_stage settings new.stage e rs)) grew)

-- what holds anyway holds of an error
pub on_err : {X E P : Type 0} (r : Result X E) → P → OnErr r P
on_err (Ok x) p = tt
on_err (Err e) p = p

-- nothing is a front
pub front_none : (held : Option (List ℕ)) (xs : List ℕ) → GrowsByFront held held xs
front_none held xs = (0, Appends-nil held)

-- ---- causes

rose_before : (a b c : ℕ) → a ≤ b → Rose b c → Rose a c
rose_before a b c h r = omega (arith, h, r)

pub cause_after : {T : Type 0} (a b c : ℕ) (r : Result T JobFault) → a ≤ b → HasJobCause b c r → HasJobCause a c r
cause_after a b c r h cause = record { later = omega (arith, h, cause.later); failed = λ f. rose_before a b c h (cause.failed f) }

-- ---- the first of the lines that are left

pub front_left : (settings : Settings) (state : JobState) (held held_new : Option (List ℕ)) (all : List Line) (r : Line) (rs : List Line) → all ≡ r ∷ rs
    → ((e : Ending) (rs : List Line) → GrowsByFront held held_new (printed_all (lines_from_stage settings state.stage e (r ∷ rs))))
    → (e : Ending) → GrowsByFront held held_new (printed_all (lines_from_stage settings state.stage e all))
front_left settings state held held_new all r rs is h e = subst (λ (l : List Line). GrowsByFront held held_new (printed_all (lines_from_stage settings state.stage e l))) (sym is) (h e rs)

pub fed_left : (settings : Settings) (old new : JobState) (held held_new : Option (List ℕ)) (all : List Line) (r : Line) (rs : List Line) → all ≡ r ∷ rs
    → ((rs : List Line) → Fed settings old new (r ∷ rs) rs held held_new) → Fed settings old new all rs held held_new
fed_left settings old new held held_new all r rs is h = subst (λ (l : List Line). Fed settings old new l rs held held_new) (sym is) (h rs)
