use Rattle.std.proofs.Common.{rules, ◌≡◌, ◌<◌, ◌&&◌, Bool, false, List, [], ◌∷◌, ◌++◌, if◌then◌else◌, map, length, All, take, get_or, sym, ap, ap₂, ◌∙◌, subst}
use Rattle.std.specs.List.{list_any}
use Rattle.std.proofs.lemmas.List.{length-map, map-append, map_push}
use Rattle.std.proofs.lemmas.List.Folds.{list_all-map}
use Rattle.mm_logic.specs.AtomValues as atoms
use Rattle.mm_logic.specs.Formula as formula
use Rattle.mm_logic.specs.Marks as marks_spec
use Rattle.mm_logic.specs.Tree.{size}
use Rattle.mm_logic.specs.Types as types
use Rattle.mm_logic.specs.Value.{Value}
use Rattle.mm_logic.proofs.SetLemmas.{list_any-map}
use Rattle.mm_logic_laws.proofs.SplitLemmas.{length-assign}
use Rattle.mm_logic_laws.proofs.LeastLemmas.{length-sets}
use Rattle.mm_reference_meaning.specs.Trees.{tree_of}
use Rattle.mm_reference_meaning.specs.Formulas.{formula_of, marks_of, tests_of}
use Rattle.mm_reference.specs.Values.{value_of, values_of}
use Rattle.mm_reference_meaning.proofs.AssignmentLemmas.{length-singles, set_length, test_at, take_next}
use Rattle.mm_reference.proofs.types.+typing.Goals as goal

pub elem_type-read_type-requires : goal.elem_type-read_type-requires
elem_type-read_type-requires t c =
    let made = ap (map marks_of) c.deref-2.ensures.value ∙ c.in_ok-assign.ensures in
    let long : length c.deref-2.result.now ≡ size (tree_of c.args.tree.now) =
    sym (length-map c.deref-2.result.now marks_of) ∙ ap length made
    ∙ length-assign c.args.k c.deref.result.now (map marks_of c.args.marks.now) ∙ length-map c.args.marks.now marks_of ∙ c.requires.each in
    (search rules, (c.requires.valid, (c.requires.small, (c.requires.slots, long))))

pub elem_type-types_over-requires : goal.elem_type-types_over-requires
elem_type-types_over-requires t c =
    let n = length c.args.marks.now in
    let all = ap tests_of c.deref-3.ensures.value ∙ c.in_ok-all.ensures in
    (search rules, (c.requires.valid, (c.requires.small, (c.requires.slots, (c.requires.slot, (c.requires.each, subst (λ xs. All (λ X. length X ≡ n) xs) (sym all) (length-singles n)))))))

pub set_type-types_over-requires : goal.set_type-types_over-requires
set_type-types_over-requires t c =
    let n = length c.args.marks.now in
    let all = ap tests_of c.deref.ensures.value ∙ c.in_ok-all.ensures in
    (search rules, (c.requires.valid, (c.requires.small, (c.requires.slots, (c.requires.slot, (c.requires.each, subst (λ xs. All (λ X. length X ≡ n) xs) (sym all) (length-sets n)))))))

pub read_type-returns-in-Member : goal.read_type-returns-in-Member
read_type-returns-in-Member t c =
    let ms = c.args.marks.now in
    c.member_type.ensures
    ∙ ap₂ (λ b d. if b then atoms.member d else atoms.unseen)
    (sym (list_any-map (λ m. m c.in-Member.x) marks_of ms)) (sym (list_any-map (λ m. m c.in-Member.x && m c.in-Member.a) marks_of ms))
    ∙ ap (λ F. types.type_of c.args.f (formula_of F) (tree_of c.args.tree.now) (map marks_of ms)) (sym c.in-Member.is)

pub read_type-returns-in-SameElem : goal.read_type-returns-in-SameElem
read_type-returns-in-SameElem t c =
    let ms = c.args.marks.now in
    let x = c.in-SameElem.x in
    let y = c.in-SameElem.y in
    c.same_elem_type.ensures
    ∙ ap₂ (λ a b. atoms.same_elem a b (list_any (λ m. get_or m x false && get_or m y false) ms))
    (sym (list_any-map (λ m. m x) marks_of ms)) (sym (list_any-map (λ m. m y) marks_of ms))
    ∙ ap (atoms.same_elem (list_any (λ m. m x) (map marks_of ms)) (list_any (λ m. m y) (map marks_of ms))) (sym (list_any-map (λ m. m x && m y) marks_of ms))
    ∙ ap (λ F. types.type_of c.args.f (formula_of F) (tree_of c.args.tree.now) (map marks_of ms)) (sym c.in-SameElem.is)

pub read_type-returns-in-Sub : goal.read_type-returns-in-Sub
read_type-returns-in-Sub t c =
    let ms = c.args.marks.now in
    c.holding.ensures
    ∙ ap atoms.holding (c.is_subset.ensures ∙ sym (list_all-map (λ m. formula.implies (m c.in-Sub.a) (m c.in-Sub.b)) marks_of ms))
    ∙ ap (λ F. types.type_of c.args.f (formula_of F) (tree_of c.args.tree.now) (map marks_of ms)) (sym c.in-Sub.is)

pub read_type-returns-in-SameSet : goal.read_type-returns-in-SameSet
read_type-returns-in-SameSet t c =
    let ms = c.args.marks.now in
    c.holding-in-SameSet.ensures
    ∙ ap atoms.holding (c.is_same_set.ensures ∙ sym (list_all-map (λ m. formula.iff (m c.in-SameSet.a) (m c.in-SameSet.b)) marks_of ms))
    ∙ ap (λ F. types.type_of c.args.f (formula_of F) (tree_of c.args.tree.now) (map marks_of ms)) (sym c.in-SameSet.is)

pub types_over-assign-requires-clause-each : goal.types_over-assign-requires-clause-each
types_over-assign-requires-clause-each t c =
    ap length c.deref.ensures.value
    ∙ set_length (length c.args.marks.now) c.args.sets.now c.loop-set.set-index c.set-item.result c.requires.sets c.loop-set-test.true c.set-item.is

pub types_over-read_type-requires : goal.types_over-read_type-requires
types_over-read_type-requires t c =
    let made = ap (map marks_of) c.deref-in-loop-set.ensures.value ∙ c.in_ok-assign.ensures in
    let long : length c.deref-in-loop-set.result.now ≡ size (tree_of c.args.tree.now) =
    sym (length-map c.deref-in-loop-set.result.now marks_of) ∙ ap length made
    ∙ length-assign c.args.k c.deref.result.now (map marks_of c.args.marks.now) ∙ length-map c.args.marks.now marks_of ∙ c.requires.each in
    (search rules, (c.requires.valid, (c.requires.small, (c.requires.slots, long))))

pub types_over-loop-set-preserved : goal.types_over-loop-set-preserved
types_over-loop-set-preserved t c =
    let f = c.args.f in
    let F = formula_of c.args.formula.now in
    let T = tree_of c.args.tree.now in
    let ms = map marks_of c.args.marks.now in
    let k = c.args.k in
    let i = c.loop-set.set-index in
    let sets = c.args.sets.now in
    let tests = tests_of sets in
    let types_at : List Bool → Value = λ X. types.type_of f F T (marks_spec.assign k X ms) in
    let is = test_at sets i c.set-item.result [] c.loop-set-test.true c.set-item.is in
    let made = ap (map marks_of) c.deref-in-loop-set.ensures.value ∙ c.in_ok-assign.ensures ∙ ap (λ X. marks_spec.assign k X ms) (c.deref.ensures.value ∙ sym is) in
    let low : i < length tests = subst (λ n. i < n) (sym (length-map sets (λ v. v.items))) c.loop-set-test.true in
    ap values_of c.in_ok-push.ensures.items
    ∙ map_push value_of c.loop-set.types.items c.in_ok-read_type.field-0
    ∙ ap₂ (λ xs x. xs ++ (x ∷ [])) c.loop-set.invariant (c.in_ok-read_type.ensures ∙ ap (types.type_of f F T) made)
    ∙ sym (ap (map types_at) (take_next i tests [] low) ∙ map-append types_at (take i tests) (get_or tests i [] ∷ []))
