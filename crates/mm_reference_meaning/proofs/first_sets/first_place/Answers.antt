use Rattle.std.proofs.Common.{◌<◌, ◌+◌, if◌then◌else◌, [], length, get_or, drop, sym, ap, ap₂, ◌∙◌, subst}
use Rattle.std.proofs.lemmas.List.{length-map}
use Rattle.mm_logic.specs.Least as least_spec
use Rattle.mm_reference_meaning.specs.Formulas.{tests_of}
use Rattle.mm_reference_meaning.proofs.AssignmentLemmas.{test_at, set_length}
use Rattle.mm_reference_meaning.proofs.WeightLemmas.{first_of_next}
use Rattle.mm_reference_meaning.proofs.first_sets.first_place.Goals as goal
use Rattle.mm_reference_meaning.proofs.first_sets.first_place.Goals.{then-is_before, else-is_before}

pub is_before-requires-clause-first : goal.is_before-requires-clause-first
is_before-requires-clause-first c =
    ap length c.deref.ensures.value
    ∙ set_length (length c.args.weights.now) c.args.sets.now c.loop-i.i c.index-sets-i.result c.requires c.loop-i-test.true c.index-sets-i.is

pub loop-i-preserved : goal.loop-i-preserved
loop-i-preserved c =
    let i = c.loop-i.i in
    let best = c.loop-i.best in
    let ws = c.args.weights.now in
    let sets = c.args.sets.now in
    let tests = tests_of sets in
    let here = c.deref.ensures.value ∙ sym (test_at sets i c.index-sets-i.result [] c.loop-i-test.true c.index-sets-i.is) in
    let there = c.deref-in-loop-i.ensures.value ∙ sym (test_at sets best c.index-sets-best.result [] c.loop-i.invariant.0 c.index-sets-best.is) in
    let before = c.is_before.ensures ∙ ap₂ (least_spec.is_before ws) here there in
    let next = first_of_next ws (get_or tests best []) i tests (subst (λ n. i < n) (sym (length-map sets (λ v. v.items))) c.loop-i-test.true) in
    elim c.if-is_before.branch [
      | then-is_before w ↦ (
        subst (λ b. b < length sets) (sym w.best-is) c.loop-i-test.true,
        ap (λ b. least_spec.first_of ws (get_or tests b []) (drop (i + 1) tests)) w.best-is
            ∙ sym (next ∙ ap (λ b. least_spec.first_of ws (if b then get_or tests i [] else get_or tests best []) (drop (i + 1) tests)) (sym before ∙ w.if-is_before.true))
            ∙ c.loop-i.invariant.1,
      )
      | else-is_before w ↦ (
        subst (λ b. b < length sets) (sym w.best-is) c.loop-i.invariant.0,
        ap (λ b. least_spec.first_of ws (get_or tests b []) (drop (i + 1) tests)) w.best-is
            ∙ sym (next ∙ ap (λ b. least_spec.first_of ws (if b then get_or tests i [] else get_or tests best []) (drop (i + 1) tests)) (sym before ∙ w.if-is_before.false))
            ∙ c.loop-i.invariant.1,
      )
    ]
