use Rattle.std.proofs.Common.{rules, ◌≡◌, ◌<◌, not, ◌&&◌, [], map, length, All, get_or, sym, ap, ◌∙◌, subst}
use Rattle.std.proofs.lemmas.List.{length-map}
use Rattle.std.proofs.lemmas.List.Folds.{list_all-map}
use Rattle.mm_logic.specs.Formula as formula
use Rattle.mm_logic.specs.Marks as marks_spec
use Rattle.mm_logic.specs.Meaning as meaning
use Rattle.mm_logic.specs.Tree.{size}
use Rattle.mm_logic.proofs.SetLemmas.{list_any-map}
use Rattle.mm_logic_laws.proofs.SplitLemmas.{length-assign}
use Rattle.mm_reference_meaning.specs.Trees.{tree_of}
use Rattle.mm_reference_meaning.specs.Formulas.{formula_of, marks_of, tests_of}
use Rattle.mm_reference_meaning.specs.Evaluation.{holds_with, truth_of}
use Rattle.mm_reference_meaning.proofs.AssignmentLemmas.{set_length, test_at}
use Rattle.mm_reference_meaning.proofs.QuantifierLemmas.{length-choices, same, other, one_decides, next_undecided}
use Rattle.mm_reference_meaning.proofs.meaning.+meaning.Goals as goal

pub holds_over-assign-requires-clause-each : goal.holds_over-assign-requires-clause-each
holds_over-assign-requires-clause-each t c =
    let n = length c.args.marks.now in
    let sets = c.deref-set-items.result.now in
    let all = ap tests_of c.deref-set-items.ensures.value ∙ c.in_ok-choices.ensures in
    ap length c.deref.ensures.value
    ∙ set_length n sets c.loop-set.set-index c.set-item.result
    (subst (λ Xs. All (λ X. length X ≡ n) Xs) (sym all) (length-choices c.args.domain n)) c.loop-set-test.true c.set-item.is

pub holds_over-holds-requires : goal.holds_over-holds-requires
holds_over-holds-requires t c =
    let made = ap (map marks_of) c.deref-in-loop-set.ensures.value ∙ c.in_ok-assign.ensures in
    let long : length c.deref-in-loop-set.result.now ≡ size (tree_of c.args.tree.now) =
    sym (length-map c.deref-in-loop-set.result.now marks_of) ∙ ap length made
    ∙ length-assign c.args.k c.deref.result.now (map marks_of c.args.marks.now) ∙ length-map c.args.marks.now marks_of ∙ c.requires.each in
    (search rules, (c.requires.valid, (c.requires.small, (c.requires.slots, long))))

pub holds_over-returns-then-branch-some : goal.holds_over-returns-then-branch-some
holds_over-returns-then-branch-some t c =
    let p = holds_with c.args.f c.args.formula.now c.args.tree.now c.args.k c.args.marks.now in
    let i = c.loop-set.set-index in
    let sets = c.deref-set-items.result.now in
    let all = ap tests_of c.deref-set-items.ensures.value ∙ c.in_ok-choices.ensures in
    let is = test_at sets i c.set-item.result [] c.loop-set-test.true c.set-item.is in
    let made = ap (map marks_of) c.deref-in-loop-set.ensures.value ∙ c.in_ok-assign.ensures
    ∙ ap (λ X. marks_spec.assign c.args.k X (map marks_of c.args.marks.now)) (c.deref.ensures.value ∙ sym is) in
    let at : p (get_or (tests_of sets) i []) ≡ c.args.some =
    sym (c.in_ok-holds.ensures ∙ ap (meaning.holds c.args.f (formula_of c.args.formula.now) (tree_of c.args.tree.now)) made) ∙ same c.in_ok-holds.field-0 c.args.some c.if-branch-some.true in
    sym (one_decides c.args.some p (tests_of sets) i [] (subst (λ n. i < n) (sym (length-map sets (λ v. v.items))) c.loop-set-test.true) at)
    ∙ ap (truth_of c.args.some p) all

pub holds_over-loop-set-preserved : goal.holds_over-loop-set-preserved
holds_over-loop-set-preserved t c =
    let p = holds_with c.args.f c.args.formula.now c.args.tree.now c.args.k c.args.marks.now in
    let i = c.loop-set.set-index in
    let sets = c.deref-set-items.result.now in
    let is = test_at sets i c.set-item.result [] c.loop-set-test.true c.set-item.is in
    let made = ap (map marks_of) c.deref-in-loop-set.ensures.value ∙ c.in_ok-assign.ensures
    ∙ ap (λ X. marks_spec.assign c.args.k X (map marks_of c.args.marks.now)) (c.deref.ensures.value ∙ sym is) in
    let at : p (get_or (tests_of sets) i []) ≡ not c.args.some =
    sym (c.in_ok-holds.ensures ∙ ap (meaning.holds c.args.f (formula_of c.args.formula.now) (tree_of c.args.tree.now)) made) ∙ other c.in_ok-holds.field-0 c.args.some c.if-branch-some.false in
    next_undecided c.args.some p (tests_of sets) i [] (subst (λ n. i < n) (sym (length-map sets (λ v. v.items))) c.loop-set-test.true) c.loop-set.invariant at

pub holds-returns-in-Member : goal.holds-returns-in-Member
holds-returns-in-Member t c =
    c.some_has_both.ensures
    ∙ sym (list_any-map (λ m. m c.in-Member.x && m c.in-Member.a) marks_of c.args.marks.now)
    ∙ ap (λ F. meaning.holds c.args.f (formula_of F) (tree_of c.args.tree.now) (map marks_of c.args.marks.now)) (sym c.in-Member.is)

pub holds-returns-in-SameElem : goal.holds-returns-in-SameElem
holds-returns-in-SameElem t c =
    c.some_has_both-in-SameElem.ensures
    ∙ sym (list_any-map (λ m. m c.in-SameElem.x && m c.in-SameElem.y) marks_of c.args.marks.now)
    ∙ ap (λ F. meaning.holds c.args.f (formula_of F) (tree_of c.args.tree.now) (map marks_of c.args.marks.now)) (sym c.in-SameElem.is)

pub holds-returns-in-Sub : goal.holds-returns-in-Sub
holds-returns-in-Sub t c =
    c.is_subset.ensures
    ∙ sym (list_all-map (λ m. formula.implies (m c.in-Sub.a) (m c.in-Sub.b)) marks_of c.args.marks.now)
    ∙ ap (λ F. meaning.holds c.args.f (formula_of F) (tree_of c.args.tree.now) (map marks_of c.args.marks.now)) (sym c.in-Sub.is)

pub holds-returns-in-SameSet : goal.holds-returns-in-SameSet
holds-returns-in-SameSet t c =
    c.is_same_set.ensures
    ∙ sym (list_all-map (λ m. formula.iff (m c.in-SameSet.a) (m c.in-SameSet.b)) marks_of c.args.marks.now)
    ∙ ap (λ F. meaning.holds c.args.f (formula_of F) (tree_of c.args.tree.now) (map marks_of c.args.marks.now)) (sym c.in-SameSet.is)
