use Rattle.std.proofs.Common.{ℕ, ◌≡◌, ◌-◌, refl, sym, ap, ◌∙◌, subst, arith}
use Rattle.mm_tree.specs.NamedTree.{Tree, nodes}
use Rattle.mm_tree.specs.NamedTree.Tree.{Join}
use Rattle.mm_tree.specs.Nodes.{named}
use Rattle.mm_tree.specs.Steps.{IsSought}
use Rattle.mm_tree.specs.declared.node.Node.{Node}
use Rattle.mm_tree.specs.declared.splice.Sought.{Sought}
use Rattle.mm_tree.specs.declared.splice.Sought.TheVariants.{Here, Beyond}
use Rattle.mm_tree.proofs.Walks.{named_join, named_of_leaf, leaf_nodes}
use Rattle.mm_tree.proofs.StepLemmas.{sought_root, sought_left, sought_right}
use Rattle.mm_tree.proofs.splice.+node_at.Goals as goal

moved : (a b : Node) (at : ℕ) (found last : Sought) → a ≡ b → found ≡ last → IsSought (named a) at found → IsSought (named b) at last
moved a b at found last e r s =
    subst (λ (x : Node). IsSought (named x) at last) e (subst (λ (x : Sought). IsSought (named a) at x) r s)

for_tree : (t u : Tree) (at : ℕ) (found : Sought) → t ≡ u → IsSought u at found → IsSought t at found
for_tree t u at found e s = subst (λ (x : Tree). IsSought x at found) (sym e) s

pub returns-then-at-eq0 : goal.returns-then-at-eq0
returns-then-at-eq0 t c = sought_root (named c.args.node.now) c.args.at c.args.node c.if-at-eq0.true refl

pub returns-in-Leaf : goal.returns-in-Leaf
returns-in-Leaf t c =
    let one = ap nodes (ap named c.in-Leaf.is ∙ named_of_leaf c.in-Leaf.field-0) ∙ leaf_nodes c.in-Leaf.field-0 in
    let z = c.if-at-eq0.false in
    omega arith

pub returns-in-Beyond : goal.returns-in-Beyond
returns-in-Beyond t c =
    let n = c.in-Join.field-0 in
    let op = c.in-Join.field-1 in
    let l = c.in-Join.left in
    let r = c.in-Join.right in
    for_tree (named c.args.node.now) (Join n op.op (named l.value) (named r.value)) c.args.at c.node_at-in-Beyond.result
    (ap named c.in-Join.is ∙ named_join n op l r)
    (sought_right n op.op (named l.value) (named r.value) c.args.at c.in-Beyond.rest c.node_at-in-Beyond.result c.if-at-eq0.false
    (moved c.deref.result.now l.value (c.args.at - 1) c.node_at.result (Beyond c.in-Beyond.rest) c.deref.ensures c.in-Beyond.is c.node_at.ensures)
    (moved c.deref-in-Beyond.result.now r.value c.in-Beyond.rest c.node_at-in-Beyond.result c.node_at-in-Beyond.result c.deref-in-Beyond.ensures
    refl c.node_at-in-Beyond.ensures))

pub returns-in-Here : goal.returns-in-Here
returns-in-Here t c =
    let n = c.in-Join.field-0 in
    let op = c.in-Join.field-1 in
    let l = c.in-Join.left in
    let r = c.in-Join.right in
    for_tree (named c.args.node.now) (Join n op.op (named l.value) (named r.value)) c.args.at (Here c.in-Here.found)
    (ap named c.in-Join.is ∙ named_join n op l r)
    (sought_left n op.op (named l.value) (named r.value) c.args.at c.in-Here.found c.if-at-eq0.false
    (moved c.deref.result.now l.value (c.args.at - 1) c.node_at.result (Here c.in-Here.found) c.deref.ensures c.in-Here.is c.node_at.ensures))
