use Rattle.std.proofs.Common.{rules, ◌≡◌, ◌<◌, ◌≤◌, Bool, List, [], ◌∷◌, ◌++◌, cond, All, length, map, take, filter, get_or, sym, ap, ap₂, ◌∙◌, subst, append-nil}
use Rattle.std.proofs.lemmas.List.{length-map, map_push, take_all}
use Rattle.std.proofs.lemmas.List.Elements.{filter_more}
use Rattle.mm_logic.specs.Marks as marks_spec
use Rattle.mm_logic.specs.Meaning as meaning
use Rattle.mm_logic.specs.Tree.{size}
use Rattle.mm_logic_laws.proofs.SplitLemmas.{length-assign}
use Rattle.mm_logic_laws.proofs.LeastLemmas.{length-sets}
use Rattle.mm_reference_meaning.specs.Trees.{tree_of}
use Rattle.mm_reference_meaning.specs.Formulas.{formula_of, marks_of, tests_of}
use Rattle.mm_reference_meaning.proofs.AssignmentLemmas.{set_length, test_at}
use Rattle.mm_reference_meaning.proofs.WeightLemmas.{satisfying_is, marks_length}
use Rattle.mm_reference_meaning.proofs.first_sets.satisfying.Goals as goal
use Rattle.mm_reference_meaning.proofs.first_sets.satisfying.Goals.{then-branch+in_ok-to_vec+in_ok-push, else-branch}

pub assign-requires-clause-each : goal.assign-requires-clause-each
assign-requires-clause-each c =
    let n = length c.args.marks.now in
    let all = ap tests_of c.deref-set-items.ensures.value ∙ c.in_ok-all.ensures in
    ap length c.deref.ensures.value
    ∙ set_length n c.deref-set-items.result.now c.loop-set.set-index c.set-item.result
    (subst (λ Xs. All (λ X. length X ≡ n) Xs) (sym all) (length-sets n)) c.loop-set-test.true c.set-item.is

pub holds-requires-clause-each : goal.holds-requires-clause-each
holds-requires-clause-each c =
    sym (length-map c.deref-in-loop-set.result.now marks_of)
    ∙ ap length (ap (map marks_of) c.deref-in-loop-set.ensures.value ∙ c.in_ok-assign.ensures)
    ∙ length-assign 0 c.deref.result.now (map marks_of c.args.marks.now)
    ∙ marks_length (size (tree_of c.args.tree.now)) (map marks_of c.args.marks.now) c.requires.marks

pub loop-set-preserved : goal.loop-set-preserved
loop-set-preserved c =
    let ms = map marks_of c.args.marks.now in
    let p : List Bool → Bool = λ X. meaning.holds c.args.f (formula_of c.args.formula.now) (tree_of c.args.tree.now) (marks_spec.assign 0 X ms) in
    let i = c.loop-set.set-index in
    let sets = c.deref-set-items.result.now in
    let tests = tests_of sets in
    let is = test_at sets i c.set-item.result [] c.loop-set-test.true c.set-item.is in
    let made = ap (map marks_of) c.deref-in-loop-set.ensures.value ∙ c.in_ok-assign.ensures ∙ ap (λ X. marks_spec.assign 0 X ms) (c.deref.ensures.value ∙ sym is) in
    let says : c.in_ok-holds.field-0 ≡ p (get_or tests i []) =
    c.in_ok-holds.ensures ∙ ap (meaning.holds c.args.f (formula_of c.args.formula.now) (tree_of c.args.tree.now)) made in
    let next = filter_more p tests i [] (subst (λ n. i < n) (sym (length-map sets (λ v. v.items))) c.loop-set-test.true) in
    elim c.if-branch.branch [
      | then-branch+in_ok-to_vec+in_ok-push w ↦
          ap (λ v. tests_of v.items) w.kept-is
          ∙ ap tests_of w.in_ok-push.ensures.items
          ∙ map_push (λ v. v.items) c.loop-set.kept.items w.in_ok-to_vec.field-0
          ∙ ap₂ (λ Xs X. Xs ++ (X ∷ [])) c.loop-set.invariant (let e : w.in_ok-to_vec.field-0.items ≡ c.set-item.result.items = search rules in e ∙ sym is)
          ∙ sym (next ∙ ap (λ b. filter p (take i tests) ++ cond b (get_or tests i [] ∷ []) []) (sym says ∙ w.if-branch.true))
      | else-branch w ↦
          ap (λ v. tests_of v.items) w.kept-is
          ∙ c.loop-set.invariant
          ∙ sym (next ∙ ap (λ b. filter p (take i tests) ++ cond b (get_or tests i [] ∷ []) []) (sym says ∙ w.if-branch.false) ∙ append-nil (filter p (take i tests)))
    ]

pub returns : goal.returns
returns c =
    let f = c.args.f in
    let F = formula_of c.args.formula.now in
    let T = tree_of c.args.tree.now in
    let ms = map marks_of c.args.marks.now in
    let sets = c.deref-set-items.result.now in
    let all = ap tests_of c.deref-set-items.ensures.value ∙ c.in_ok-all.ensures ∙ ap marks_spec.sets (sym (length-map c.args.marks.now marks_of)) in
    satisfying_is f F T ms (tests_of sets) (tests_of c.loop-set.kept.items) c.requires.marks all
    (c.loop-set.invariant
    ∙ ap (filter (λ X. meaning.holds f F T (marks_spec.assign 0 X ms)))
    (take_all c.loop-set.set-index (tests_of sets) (subst (λ n. n ≤ c.loop-set.set-index) (sym (length-map sets (λ v. v.items))) c.loop-set-test.false)))
