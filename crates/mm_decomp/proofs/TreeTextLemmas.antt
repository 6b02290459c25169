-- The reading of the text of a header alone, from its parts.
use Rattle.std.proofs.Common.{ℕ, ◌+◌, ◌≤◌, ◌≡◌, Bool, true, false, List, [], ◌∷◌, length, refl, sym, ap, ap₂, ◌∙◌, subst}
use Rattle.std.specs.Prelude.{Ok, Err}
use Rattle.std.specs.declared.result.Result.{Result}
use Rattle.mm_header.specs.Header.{Parts, matched, parts}
use Rattle.mm_header.specs.Rules.{dual_rules}
use Rattle.mm_header.specs.State.HeaderStates.{header_value, parts_after, parts_from}
use Rattle.mm_header.specs.declared.state.HeaderData.{HeaderData}
use Rattle.mm_header.specs.declared.state.HeaderState.{HeaderState}
use Rattle.mm_header.specs.declared.state.HeaderState.TheVariants as state
use Rattle.mm_header.specs.declared.state.HeaderStep.{HeaderStep}
use Rattle.mm_header.specs.declared.state.HeaderStep.TheVariants as step
use Rattle.mm_header.proofs.HeaderLemmas.{state_short}
use Rattle.mm_lines.specs.declared.line.Line.{Line}
use Rattle.mm_field.specs.declared.Field.{Field}
use Rattle.mm_header.specs.Header.{verdict_refusal}
use Rattle.mm_header.specs.State.HeaderStates.{IsHeader}
use Rattle.mm_job_text.specs.Becoming.{Becomes, Goes}
use Rattle.mm_job_text.specs.Checks.{◌>>◌}
use Rattle.mm_present.specs.Comparing.{compared}
use Rattle.mm_present.specs.declared.comparison.Verdict.{Verdict}
use Rattle.mm_present.specs.declared.comparison.Verdict.TheVariants as verdict
use Rattle.mm_job_text.specs.Readers.{Reading, Read, Refused, Short, and_then}
use Rattle.mm_job_text.specs.declared.refusal.Refusal.{Refusal}
use Rattle.mm_job_text.specs.declared.refusal.Refusal.TheVariants as refusal
use Rattle.mm_job_text.specs.declared.refusal.Stop.{Stop}
use Rattle.mm_job_text.specs.declared.refusal.Stop.TheVariants as stop
use Rattle.mm_job_text.proofs.ReadingLemmas.{IfRead}
use Rattle.mm_tree.specs.TreeValue.{TreeValue}
use Rattle.mm_decomp.specs.Decompositions.{nothing_after}
use Rattle.mm_decomp.specs.GivenTrees.{HasFewElements, IsGivenTree, ReadsTreeAs, agreeing, given_tree, tree_given, tree_at_end, tree_from, tree_parts}

-- ---- lines

-- what comes after one line more
after_step : (s : HeaderStep) (rs : List Line) → and_then (parts_after dual_rules s rs) nothing_after ≡ tree_from s rs
after_step (step.More h) rs = refl
after_step (step.Parts h t) rs = refl

pub line_goes : (r : Result HeaderStep Stop) (h : HeaderState) (l : Line) (rs : List Line) →
    Goes r (parts_from dual_rules h (l ∷ rs)) (λ s. parts_after dual_rules s rs) → Goes r (tree_from (step.More h) (l ∷ rs)) (λ s. tree_from s rs)
line_goes (Ok s) h l rs g = ap (λ (x : Reading Parts). and_then x nothing_after) g ∙ after_step s rs
line_goes (Err (stop.Refused e)) h l rs g = ap (λ (x : Reading Parts). and_then x nothing_after) g
line_goes (Err stop.NoMemory) h l rs g = tt

-- ---- the end of the text

pub end_over : (over : Bool) (s : HeaderStep) → over ≡ true → tree_at_end over (tree_from s []) ≡ Err refusal.TooLong
unfolding nothing_after
end_over over (step.More h) e =
    ap₂ (λ (b : Bool) (x : Reading Parts). tree_at_end b (and_then x nothing_after)) e (state_short dual_rules h)
end_over over (step.Parts h t) e = ap (λ (b : Bool). tree_at_end b (tree_from (step.Parts h t) [])) e

pub end_short : (over : Bool) (s : HeaderStep) (h : HeaderState) → over ≡ false → s ≡ step.More h → tree_at_end over (tree_from s []) ≡ Err refusal.Unfinished
end_short over s h e is =
    ap₂ (λ (b : Bool) (x : HeaderStep). tree_at_end b (tree_from x [])) e is
    ∙ ap (λ (x : Reading Parts). tree_at_end false (and_then x nothing_after)) (state_short dual_rules h)

pub end_is : (over : Bool) (s : HeaderStep) (h : HeaderData) (t : TreeValue) → over ≡ false → s ≡ step.Parts h t →
    tree_at_end over (tree_from s []) ≡ agreeing (header_value h, t.tree)
unfolding nothing_after
end_is over s h t e is = ap₂ (λ (b : Bool) (x : HeaderStep). tree_at_end b (tree_from x [])) e is

pub tree_parts_from : (rs : List Line) → tree_parts rs ≡ tree_from (step.More state.Format) rs
unfolding tree_parts
tree_parts_from rs = refl

pub few_at_end : (s : HeaderStep) (h : HeaderData) (t : TreeValue) → s ≡ step.Parts h t → IfRead HasFewElements (tree_from s []) → HasFewElements (header_value h, t.tree)
unfolding nothing_after
few_at_end s h t is few = subst (λ (x : HeaderStep). IfRead HasFewElements (tree_from x [])) is few

pub line_stops : {X : Type 0} (s : Stop) (p : List Line → Reading Parts) (all : List Line) (r : Line) (rs : List Line)
    (f : HeaderStep → Reading Parts) (g : X → Reading Parts) → all ≡ r ∷ rs → Goes {X = HeaderStep} (Err s) (p (r ∷ rs)) f → Goes {X = X} (Err s) (p all) g
line_stops (stop.Refused e) p all r rs f g q h = ap p q ∙ h
line_stops stop.NoMemory p all r rs f g q h = tt

-- ---- the comparison

same_verdict : (v : Verdict) → verdict_refusal v ≡ Ok tt → v ≡ verdict.Same
same_verdict verdict.Same e = refl
same_verdict (verdict.Elements name) e = cc
same_verdict (verdict.Given i) e = cc
same_verdict (verdict.Present j) e = cc

pub agreed : (h : HeaderData) (t : TreeValue) → IsHeader h → t.f ≡ h.field → HasFewElements (header_value h, t.tree) →
    matched (header_value h, t.tree) ≡ Ok tt →
    (agreeing (header_value h, t.tree) ≡ Ok (tree_given (record { given = h.matrix; tree = t }))) × IsGivenTree (record { given = h.matrix; tree = t })
agreed h t is ef few e =
    let p : Parts = (header_value h, t.tree) in
    let same = same_verdict (compared h.field (record { names = h.matrix.names; rows = h.matrix.rows.rows }) t.tree) e in (
      ap (λ (m : Result (Unit {0}) Refusal). m >> Ok (given_tree p)) e
          ∙ ap (λ (f : Field). Ok (record { given = record { f = f; names = h.matrix.names; rows = h.matrix.rows.rows }; tree = t.tree })) (sym is.matrix.field),
      record {
        field = ef ∙ sym is.matrix.field;
        columns = is.matrix.cols;
        different = is.matrix.different;
        few = few;
        same = ap (λ (f : Field). compared f (record { names = h.matrix.names; rows = h.matrix.rows.rows }) t.tree) ef ∙ same;
      },
    )

pub disagreed : (s : Stop) (p : Parts) → Becomes {X = Unit {0}} (Err s) tt (matched p) → ReadsTreeAs (Err s) (agreeing p)
disagreed (stop.Refused e) p h = ap (λ (m : Result (Unit {0}) Refusal). m >> Ok (given_tree p)) h
disagreed stop.NoMemory p h = tt

-- the first faulty line is the refusal of the text
pub stopped : {X : Type 0} (s : Stop) (over : Bool) (all first : Reading Parts) (f : X → Reading Parts) → all ≡ first → Goes {X = X} (Err s) first f →
    ReadsTreeAs (Err s) (tree_at_end over all)
stopped (stop.Refused e) over all first f q h = ap (tree_at_end over) (q ∙ h)
stopped stop.NoMemory over all first f q h = tt
