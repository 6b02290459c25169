use Rattle.std.proofs.Common.{rules, ◌≡◌, All, None, Some, [], filter, map, length, get_or, sym, ap, ◌∙◌, subst, arith}
use Rattle.std.proofs.lemmas.List.{length-map}
use Rattle.std.proofs.lemmas.List.Elements.{All-filter}
use Rattle.mm_logic.specs.Least.{holds_of, least, first_set}
use Rattle.mm_logic.specs.Marks as marks_spec
use Rattle.mm_logic.specs.Tree.{size}
use Rattle.mm_logic_laws.proofs.LeastLemmas.{least-set_meant, length-sets}
use Rattle.mm_reference_meaning.specs.Asked.{IsAsked}
use Rattle.mm_reference_meaning.specs.Trees.{tree_of}
use Rattle.mm_reference_meaning.specs.Formulas.{formula_of, marks_of, tests_of}
use Rattle.mm_reference_meaning.proofs.AssignmentLemmas.{test_at}
use Rattle.mm_reference_meaning.proofs.WeightLemmas.{marks_length}
use Rattle.mm_reference_meaning.proofs.first_sets.least.Goals as goal

pub first_place-requires : goal.first_place-requires
first_place-requires c =
    let T = tree_of c.args.tree.now in
    let p = holds_of c.args.f (formula_of c.args.formula.now) T in
    let ws = c.args.weights.now in
    let ms = c.in-Some.marks.items in
    let asked : IsAsked c.args.f c.args.formula.now T (map marks_of ms) = search rules in
    let same : length ws ≡ length ms = search rules in
    let long : size T ≡ length ws = sym (marks_length (size T) (map marks_of ms) asked.marks) ∙ length-map ms marks_of ∙ sym same in
    subst (λ Xs. All (λ X. length X ≡ length ws) Xs) (sym (ap tests_of c.deref-in-Some.ensures.value ∙ c.in_ok-kept-in-Some.ensures))
    (subst (λ n. All (λ X. length X ≡ n) (filter p (marks_spec.sets (size T)))) long
    (All-filter p (λ X. length X ≡ size T) (marks_spec.sets (size T)) (length-sets (size T))))

pub returns-in-None-first_place-clause-some : goal.returns-in-None-first_place-clause-some
returns-in-None-first_place-clause-some c =
    let f = c.args.f in
    let F = formula_of c.args.formula.now in
    let T = tree_of c.args.tree.now in
    let ws = c.args.weights.now in
    let asked : IsAsked f c.args.formula.now T (map marks_of c.in-Some.marks.items) = search rules in
    let kept = ap tests_of c.deref-in-Some.ensures.value ∙ c.in_ok-kept-in-Some.ensures in
    let none : least f F T ws ≡ None = ap (first_set ws) (sym kept) ∙ c.in-None-first_place.ensures.first in
    (least-set_meant f T asked.can.valid F ws).1.0 none

pub swap_remove-requires : goal.swap_remove-requires
swap_remove-requires c = omega (arith, c.in-Some-first_place.ensures.place, c.deref-in-Some.ensures.len)

pub returns-clause-some : goal.returns-clause-some
returns-clause-some c =
    let f = c.args.f in
    let F = formula_of c.args.formula.now in
    let T = tree_of c.args.tree.now in
    let ws = c.args.weights.now in
    let i = c.in-Some-first_place.i in
    let sets = c.deref-in-Some.result.now in
    let asked : IsAsked f c.args.formula.now T (map marks_of c.in-Some.marks.items) = search rules in
    let kept = ap tests_of c.deref-in-Some.ensures.value ∙ c.in_ok-kept-in-Some.ensures in
    let is : c.swap_remove.result ≡ get_or sets i c.swap_remove.result =
    c.swap_remove.ensures.value ∙ ap (λ Xs. get_or Xs i c.swap_remove.result) (sym c.deref-in-Some.ensures.value) in
    let some : least f F T ws ≡ Some c.swap_remove.result.items =
    ap (first_set ws) (sym kept) ∙ c.in-Some-first_place.ensures.first
    ∙ ap (λ X. Some X) (test_at sets i c.swap_remove.result [] c.in-Some-first_place.ensures.place is) in
    ((least-set_meant f T asked.can.valid F ws).0 c.swap_remove.result.items).0 some
