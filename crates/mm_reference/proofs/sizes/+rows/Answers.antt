use Rattle.std.proofs.Common.{◌≡◌, ◌+◌, length, sym, ap, ◌∙◌, subst}
use Rattle.mm_logic.specs.StateSize.{types_at, rows}
use Rattle.mm_logic.specs.Occurrence.{distinct}
use Rattle.mm_logic.specs.Tree.{Tree, subtrees}
use Rattle.mm_reference.specs.Sizes.{IsCount, query_of}
use Rattle.mm_reference_meaning.specs.Trees.{tree_of, op_of}
use Rattle.mm_reference.specs.Values.{seen_of, values_of}
use Rattle.mm_reference.proofs.SizeLemmas.{sum_join}
use Rattle.mm_reference.proofs.sizes.+rows.Goals as goal

pub returns-in_ok-below_right-in-Join : goal.returns-in_ok-below_right-in-Join
returns-in_ok-below_right-in-Join t c =
    let f = c.args.f in
    let Q = query_of c.args.question c.args.formula.now in
    let L = tree_of c.in-Join.left.value in
    let R = tree_of c.in-Join.right.value in
    let N = Tree.Join (op_of c.in-Join.field-0) L R in
    let is : tree_of c.args.tree.now ≡ N = ap tree_of c.in-Join.is in
    let g = λ (M : Tree). length (distinct (types_at f Q M)) in
    let here : IsCount (g N) c.count_distinct-here.result =
    subst (λ us. IsCount (length (distinct us)) c.count_distinct-here.result)
    (ap seen_of c.deref-2.ensures.value ∙ c.in_ok-seen.ensures ∙ ap values_of c.deref.ensures.value ∙ c.in_ok-types_at.ensures ∙ ap (types_at f Q) is) c.count_distinct-here.ensures in
    let left : IsCount (rows f Q L) c.in_ok-below_left-in-Join.below_left =
    subst (λ T. IsCount (rows f Q (tree_of T)) c.in_ok-below_left-in-Join.below_left) c.deref-in-Join.ensures c.in_ok-below_left-in-Join.ensures in
    let right : IsCount (rows f Q R) c.in_ok-below_right-in-Join.below_right =
    subst (λ T. IsCount (rows f Q (tree_of T)) c.in_ok-below_right-in-Join.below_right) c.deref-in-Join-2.ensures c.in_ok-below_right-in-Join.ensures in
    subst (λ n. IsCount n c.add-in-Join.result) (sum_join g N (subtrees L) (subtrees R) ∙ ap (rows f Q) (sym is))
    (c.add-in-Join.ensures (g N) (rows f Q L + rows f Q R) here (c.add.ensures (rows f Q L) (rows f Q R) left right))
