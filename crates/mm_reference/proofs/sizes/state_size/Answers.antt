use Rattle.std.proofs.Common.{◌≡◌, ◌+◌, ◌++◌, ap, ◌∙◌, subst}
use Rattle.mm_logic.specs.StateSize.{types, rows, state_size}
use Rattle.mm_logic.specs.Occurrence.{cells}
use Rattle.mm_reference_meaning.specs.Asked.{CanAsk}
use Rattle.mm_reference_meaning.specs.Formulas.{formula_of}
use Rattle.mm_reference.specs.Sizes.{IsCount, query_of}
use Rattle.mm_reference_meaning.specs.Trees.{tree_of}
use Rattle.mm_reference.specs.Values.{seen_of, values_of}
use Rattle.mm_reference.proofs.SizeLemmas.{count_is, count_is_less, asked_is}
use Rattle.mm_reference.proofs.sizes.state_size.Goals as goal

counted : (c : goal.After-drop-types-2) → IsCount (state_size c.args.f (query_of c.args.question c.args.formula.now) (tree_of c.args.tree.now)) c.add.result
counted c =
    let f = c.args.f in
    let F = formula_of c.args.formula.now in
    let Q = query_of c.args.question c.args.formula.now in
    let T = tree_of c.args.tree.now in
    let all : seen_of c.deref-2.result.now ≡ types f Q T =
    ap seen_of c.deref-2.ensures.value ∙ c.in_ok-seen.ensures ∙ ap values_of c.deref.ensures.value ∙ c.in_ok-push_types.ensures
    ∙ ap (λ vs. values_of vs ++ types f Q T) c.new-types.ensures.items in
    let of_types : IsCount (cells F (seen_of c.deref-2.result.now)) c.in_ok-of_types.of_types = c.in_ok-of_types.ensures in
    let of_rows : IsCount (rows f Q T) c.in_ok-rows.field-0 = c.in_ok-rows.ensures in
    subst (λ n. IsCount n c.add.result) (ap (λ G. cells G (types f Q T) + rows f Q T) (asked_is c.args.question c.args.formula.now))
    (c.add.ensures (cells F (types f Q T)) (rows f Q T) (subst (λ vs. IsCount (cells F vs) c.in_ok-of_types.of_types) all of_types) of_rows)

pub returns-clause-some : goal.returns-clause-some
returns-clause-some c = count_is (state_size c.args.f (query_of c.args.question c.args.formula.now) (tree_of c.args.tree.now)) c.add.result (counted c)

pub returns-clause-none : goal.returns-clause-none
returns-clause-none c =
    count_is_less (state_size c.args.f (query_of c.args.question c.args.formula.now) (tree_of c.args.tree.now)) c.add.result
    (CanAsk c.args.f c.args.formula.now (tree_of c.args.tree.now)) (counted c)
