use Rattle.std.proofs.Common.{ℕ, ◌≡◌, ◌-◌, refl, sym, ap, ◌∙◌, subst, arith}
use Rattle.std.specs.Box.{with_value}
use Rattle.mm_tree.specs.NamedTree.{nodes}
use Rattle.mm_tree.specs.Nodes.{named}
use Rattle.mm_tree.specs.Steps.{IsSpliced}
use Rattle.mm_tree.specs.declared.node.Node.{Node}
use Rattle.mm_tree.specs.declared.node.Node.TheViews as views
use Rattle.mm_tree.specs.declared.splice.Spliced.{Spliced}
use Rattle.mm_tree.specs.declared.splice.Spliced.TheVariants.{Done, Beyond}
use Rattle.mm_tree.proofs.Walks.{named_of_leaf, leaf_nodes}
use Rattle.mm_tree.proofs.StepLemmas.{exchanged_root, exchanged_left, spliced_right}
use Rattle.mm_tree.proofs.splice.+splice.Goals as goal

moved : (a b now : Node) (at : ℕ) (new out : Node) (found last : Spliced) → a ≡ b → found ≡ last → IsSpliced a now at new out found →
    IsSpliced b now at new out last
moved a b now at new out found last e r s =
    subst (λ (x : Node). IsSpliced x now at new out last) e (subst (λ (x : Spliced). IsSpliced a now at new out x) r s)

for_node : (a b now : Node) (at : ℕ) (new out : Node) (found : Spliced) → a ≡ b → IsSpliced b now at new out found → IsSpliced a now at new out found
for_node a b now at new out found e s = subst (λ (x : Node). IsSpliced x now at new out found) (sym e) s

pub returns-then-at-eq0 : goal.returns-then-at-eq0
returns-then-at-eq0 t c =
    exchanged_root c.args.node.now c.swap.new.x c.args.new.now c.swap.new.y c.args.at c.if-at-eq0.true c.swap.ensures.y_after c.swap.ensures.x_after

pub returns-in-Leaf : goal.returns-in-Leaf
returns-in-Leaf t c =
    let one = ap nodes (ap named c.in-Leaf.is ∙ named_of_leaf c.in-Leaf.field-0) ∙ leaf_nodes c.in-Leaf.field-0 in
    let z = c.if-at-eq0.false in
    (refl, refl, omega arith)

pub returns-in-Beyond : goal.returns-in-Beyond
returns-in-Beyond t c =
    let n = c.in-Join.field-0 in
    let op = c.in-Join.field-1 in
    let l = c.in-Join.left in
    let r = c.in-Join.right in
    let new = c.args.new.now in
    let mid = c.splice.new.new in
    let out = c.splice-in-Beyond.new.new in
    let last = c.splice-in-Beyond.result in
    let first = moved c.deref_mut.result.now l.value c.splice.new.node (c.args.at - 1) new mid c.splice.result (Beyond c.in-Beyond.rest)
    c.deref_mut.ensures.value c.in-Beyond.is c.splice.ensures in
    let more = moved c.deref_mut-in-Beyond.result.now r.value c.splice-in-Beyond.new.node c.in-Beyond.rest mid out last last
    c.deref_mut-in-Beyond.ensures.value refl c.splice-in-Beyond.ensures in
    let same = subst (λ (x : Node). IsSpliced r.value c.splice-in-Beyond.new.node c.in-Beyond.rest x out last) first.0 more in
    for_node c.args.node.now (views.Join n op l r) (views.Join n op (with_value l c.splice.new.node) (with_value r c.splice-in-Beyond.new.node)) c.args.at
    new out last c.in-Join.is
    (spliced_right n op l r c.splice.new.node c.splice-in-Beyond.new.node new out c.args.at c.in-Beyond.rest last
    c.if-at-eq0.false first.1 first.2 same)

pub returns-in-Done : goal.returns-in-Done
returns-in-Done t c =
    let n = c.in-Join.field-0 in
    let op = c.in-Join.field-1 in
    let l = c.in-Join.left in
    let r = c.in-Join.right in
    let new = c.args.new.now in
    let out = c.splice.new.new in
    for_node c.args.node.now (views.Join n op l r) (views.Join n op (with_value l c.splice.new.node) r) c.args.at new out Done c.in-Join.is
    (exchanged_left n op l r c.splice.new.node new out c.args.at c.if-at-eq0.false
    (moved c.deref_mut.result.now l.value c.splice.new.node (c.args.at - 1) new out c.splice.result Done
    c.deref_mut.ensures.value c.in-Done.is c.splice.ensures))
