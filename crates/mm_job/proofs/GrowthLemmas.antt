-- What is settled of a text stays, however the text goes on.
use Rattle.std.proofs.Common.{◌≡◌, ℕ, ◌+◌, Bool, true, false, not, List, [], ◌∷◌, ◌++◌, length, take, refl, sym, ap, ◌∙◌, subst, arith}
use Rattle.std.specs.Prelude.{flat_map, if◌then◌else◌}
use Rattle.std.proofs.lemmas.Bool.{le-leb}
use Rattle.std.proofs.lemmas.List.{append-nil, length-append, take-append-le}
use Rattle.std.proofs.lemmas.Grind.{flat_map-append}
use borrow.Author.Tests.{ltb-true}
use Rattle.mm_base.specs.declared.status.Status.TheVariants as status
use Rattle.mm_lines.specs.Fronts.{IsFront}
use Rattle.mm_lines.specs.Lines.{is_over, lines, lines_of, most_bytes, settled}
use Rattle.mm_lines.specs.declared.line.Line.{Line}
use Rattle.mm_lines.proofs.FrontLemmas.{settled_stay, front_same}
use Rattle.mm_job_text.specs.Readers.{Reading, Refused}
use Rattle.mm_job_text.specs.declared.refusal.Refusal.{Refusal}
use Rattle.mm_job_text.proofs.ReaderLemmas.{Keeps}
use Rattle.mm_job.specs.Header.{Session, header}
use Rattle.mm_job.specs.Laws.{Grows, IsRefused, IsFinal}
use Rattle.mm_job.specs.Output.{Ending, More, Ended, Over, written_lines, ending, lines_after_header, end_of, output_lines, settled_lines, printed, status_of}
use Rattle.mm_job.specs.declared.output_line.OutputLine.{OutputLine}
use Rattle.mm_job.specs.declared.output_line.OutputLine.TheVariants.{Refuses}
use Rattle.mm_job.specs.Settings.{Settings}
use Rattle.mm_job.proofs.HeaderLemmas.{header_steady}
use Rattle.mm_job.proofs.ItemLemmas.{written_goes_on}

-- A text with more bytes than are used.

over_longer : (a b : List ℕ) → is_over a ≡ true → is_over (a ++ b) ≡ true
over_longer a b h = le-leb (most_bytes + 1) (length (a ++ b)) (omega (arith, ltb-true most_bytes (length a) h, length-append a b))

over_ending : (e : Ending) (a : List ℕ) → is_over a ≡ true → ending e a ≡ Over
over_ending e a h = ap (λ (c : Bool). if c then Over else e) h

over_settled : (a b : List ℕ) → is_over a ≡ true → settled (a ++ b) ≡ settled a
unfolding settled
over_settled a b h = ap (lines_of false) (take-append-le most_bytes a b (omega (arith, ltb-true most_bytes (length a) h)))

over_lines : (a : List ℕ) → is_over a ≡ true → lines a ≡ settled a
unfolding lines settled
over_lines a h = ap (λ (c : Bool). lines_of (not c) (take most_bytes a)) h

-- The lines of a text that goes on begin with the settled ones.

pub settled_next : (a b : List ℕ) → IsFront (settled a) (settled (a ++ b))
unfolding settled
settled_next a b = settled_stay false a b

pub settled_whole : (a b : List ℕ) → IsFront (settled a) (lines (a ++ b))
unfolding lines
settled_whole a b = settled_stay (not (is_over (a ++ b))) a b

-- What is written begins with what is settled: of lines that go on, with any ending, or of the same lines of a text that is over.
settled_lines_go_on : (settings : Settings) (a : List ℕ) (c : Bool) → is_over a ≡ c → (e : Ending) (all : List Line) → IsFront (settled a) all
    → (is_over a ≡ true → (e ≡ Over) × (all ≡ settled a)) → IsFront (settled_lines a settings) (written_lines settings e all)
unfolding settled_lines
settled_lines_go_on settings a true h e all p same =
    front_same (written_lines settings (ending More a) (settled a)) (written_lines settings e all)
    (ap (λ (d : Ending). written_lines settings d (settled a)) (over_ending More a h ∙ sym (same h).0) ∙ ap (written_lines settings e) (sym (same h).1))
settled_lines_go_on settings a false h e all p same =
    subst (λ (d : Ending). IsFront (written_lines settings d (settled a)) (written_lines settings e all)) (sym (ap (λ (c : Bool). if c then Over else More) h))
    (subst (λ (rs : List Line). IsFront (written_lines settings More (settled a)) (written_lines settings e rs)) p.1 (written_goes_on settings e (settled a) p.0))

printed_front : (xs ys : List OutputLine) → IsFront xs ys → IsFront (flat_map printed xs) (flat_map printed ys)
printed_front xs ys p = (flat_map printed p.0, sym (flat_map-append printed xs p.0) ∙ ap (flat_map printed) p.1)

-- The output grows with the text.
pub output_grows : (settings : Settings) (a b : List ℕ) → Grows settings a b
unfolding output_lines settled_lines
output_grows settings a b =
    let whole : IsFront (settled a) (lines a) = subst (λ (t : List ℕ). IsFront (settled a) (lines t)) (append-nil a) (settled_whole a []) in
    record {
      settled = printed_front _ _ (settled_lines_go_on settings a (is_over a) refl (ending More (a ++ b)) (settled (a ++ b)) (settled_next a b)
          (λ h. (over_ending More (a ++ b) (over_longer a b h), over_settled a b h)));
      whole = printed_front _ _ (settled_lines_go_on settings a (is_over a) refl (ending Ended a) (lines a) whole
          (λ h. (over_ending Ended a h, over_lines a h)));
      longer = printed_front _ _ (settled_lines_go_on settings a (is_over a) refl (ending Ended (a ++ b)) (lines (a ++ b)) (settled_whole a b)
          (λ h. (over_ending Ended (a ++ b) (over_longer a b h), over_lines (a ++ b) (over_longer a b h) ∙ over_settled a b h)));
    }

-- Where all that is written is known, nothing after it matters.
same_lines : (settings : Settings) (a b : List ℕ) (output_line : List OutputLine) → settled_lines a settings ≡ output_line → settled_lines (a ++ b) settings ≡ output_line
    → output_lines a settings ≡ output_line → output_lines (a ++ b) settings ≡ output_line → IsFinal settings a b
same_lines settings a b output_line now next out out_next =
    record {
      settled = ap (flat_map printed) (next ∙ sym now);
      whole = ap (flat_map printed) (out ∙ sym now);
      longer = ap (flat_map printed) (out_next ∙ sym now);
      status = ap status_of (out_next ∙ sym out);
    }

-- a refused header, whatever the ending and the lines after it
refused_written : (settings : Settings) (why : Refusal) (e : Ending) (rs all : List Line) → IsFront rs all → header settings rs ≡ Refused why → written_lines settings e all ≡ Refuses why ∷ []
unfolding written_lines
refused_written settings why e rs all p h =
    ap (λ (l : List Line). lines_after_header e (header settings l)) (sym p.1)
    ∙ ap (lines_after_header e) (subst (λ (r : Reading Session). Keeps p.0 r (header settings (rs ++ p.0))) h (header_steady settings rs p.0))

pub refused_is_final : (settings : Settings) (a b : List ℕ) → IsRefused settings a → IsFinal settings a b
unfolding output_lines settled_lines
refused_is_final settings a b h =
    let whole : IsFront (settled a) (lines a) = subst (λ (t : List ℕ). IsFront (settled a) (lines t)) (append-nil a) (settled_whole a []) in
    same_lines settings a b (Refuses h.0 ∷ [])
    (refused_written settings h.0 (ending More a) (settled a) (settled a) (front_same (settled a) (settled a) refl) h.1)
    (refused_written settings h.0 (ending More (a ++ b)) (settled a) (settled (a ++ b)) (settled_next a b) h.1)
    (refused_written settings h.0 (ending Ended a) (settled a) (lines a) whole h.1)
    (refused_written settings h.0 (ending Ended (a ++ b)) (settled a) (lines (a ++ b)) (settled_whole a b) h.1)

over_written : (settings : Settings) (e : Ending) (text : List ℕ) (rs all : List Line) → is_over text ≡ true → all ≡ rs → written_lines settings (ending e text) all ≡ written_lines settings Over rs
over_written settings e text rs all h p = ap (λ (d : Ending). written_lines settings d all) (over_ending e text h) ∙ ap (written_lines settings Over) p

pub over_is_final : (settings : Settings) (a b : List ℕ) → is_over a ≡ true → IsFinal settings a b
unfolding output_lines settled_lines
over_is_final settings a b h =
    let longer = over_longer a b h in
    same_lines settings a b (written_lines settings Over (settled a))
    (over_written settings More a (settled a) (settled a) h refl)
    (over_written settings More (a ++ b) (settled a) (settled (a ++ b)) longer (over_settled a b h))
    (over_written settings Ended a (settled a) (lines a) h (over_lines a h))
    (over_written settings Ended (a ++ b) (settled a) (lines (a ++ b)) longer (over_lines (a ++ b) longer ∙ over_settled a b h))

pub refused_end : (settings : Settings) (a : List ℕ) → IsRefused settings a → end_of a settings ≡ status.Refused
unfolding output_lines
refused_end settings a h =
    let whole : IsFront (settled a) (lines a) = subst (λ (t : List ℕ). IsFront (settled a) (lines t)) (append-nil a) (settled_whole a []) in
    ap status_of (refused_written settings h.0 (ending Ended a) (settled a) (lines a) whole h.1)

pub over_end : (settings : Settings) (a : List ℕ) → is_over a ≡ true → end_of a settings ≡ status_of (written_lines settings Over (settled a))
unfolding output_lines
over_end settings a h = ap status_of (over_written settings Ended a (settled a) (lines a) h (over_lines a h))
