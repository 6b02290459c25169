use Rattle.std.proofs.Common.{rules, ℕ, List, ◌≡◌, Option, Some, sym, ap, ◌∙◌, subst, arith}
use Rattle.mm_tree.specs.OutsideLeaves.{IsSeen}
use Rattle.mm_tree.specs.NamedTree.{Tree, nodes}
use Rattle.mm_tree.specs.NamedTree.Tree.{Join}
use Rattle.mm_tree.specs.Nodes.{named, named_leaf}
use Rattle.mm_tree.specs.declared.node.Node.{Node}
use Rattle.mm_tree.specs.declared.replace.Outside.{Outside}
use Rattle.mm_tree.proofs.ReplaceLemmas.{seen_root, seen_leaf, seen_join, few_seen}
use Rattle.mm_tree.proofs.PathLemmas.{nodes_join, some_nodes}
use Rattle.mm_tree.proofs.Walks.{named_of_leaf, named_join}
use Rattle.mm_tree.proofs.replace.+see_outside.Goals as goal

for_tree : (t u : Tree) (at rest : Option ℕ) (names : List (List ℕ)) (old new : Outside) → t ≡ u → IsSeen u at names old new rest → IsSeen t at names old new rest
for_tree t u at rest names old new e s = subst (λ (x : Tree). IsSeen x at names old new rest) (sym e) s

for_node : (a b : Node) (at rest : Option ℕ) (names : List (List ℕ)) (old new : Outside) → a ≡ b → IsSeen (named a) at names old new rest →
    IsSeen (named b) at names old new rest
for_node a b at rest names old new e s = subst (λ (x : Node). IsSeen (named x) at names old new rest) e s

pub returns-then-eq : goal.returns-then-eq
returns-then-eq t c =
    let zero : c.args.at ≡ Some 0 = search rules in
    seen_root (named c.args.node.now) c.args.at c.args.names.now.keys c.args.seen.now zero

pub see-requires : goal.see-requires
see-requires t c =
    let some = some_nodes (named c.args.node.now) in
    omega arith

pub see_outside-rest-requires : goal.see_outside-rest-requires
see_outside-rest-requires t c =
    let l = c.in-Join.left in
    let r = c.in-Join.right in
    let whole = ap nodes (ap named c.in-Join.is ∙ named_join c.in-Join.field-0 c.in-Join.field-1 l r) in
    let size = nodes_join c.in-Join.field-0 c.in-Join.field-1.op (named l.value) (named r.value) in
    let left = ap (λ (x : Node). nodes (named x)) c.deref.ensures in
    let down = c.decreases in
    (omega arith, omega arith)

pub see_outside-requires : goal.see_outside-requires
see_outside-requires t c =
    let l = c.in-Join.left in
    let r = c.in-Join.right in
    let whole = ap nodes (ap named c.in-Join.is ∙ named_join c.in-Join.field-0 c.in-Join.field-1 l r) in
    let size = nodes_join c.in-Join.field-0 c.in-Join.field-1.op (named l.value) (named r.value) in
    let left = ap (λ (x : Node). nodes (named x)) c.deref.ensures in
    let right = ap (λ (x : Node). nodes (named x)) c.deref-in-Join.ensures in
    let few = few_seen (named c.deref.result.now) c.one_less-in-Join.result c.see_outside-rest.result c.args.names.now.keys c.args.seen.now c.see_outside-rest.new.seen
    c.see_outside-rest.ensures in
    let down = c.decreases in
    (omega arith, omega arith)

pub returns-in-Leaf : goal.returns-in-Leaf
returns-in-Leaf t c =
    let l = c.in-Leaf.leaf in
    for_tree (named c.args.node.now) (named_leaf l) c.args.at c.one_less.result c.args.names.now.keys c.args.seen.now c.see.new.self
    (ap named c.in-Leaf.is ∙ named_of_leaf l)
    (seen_leaf l c.args.at c.one_less.result c.args.names.now.keys c.args.seen.now c.see.new.self c.one_less.ensures c.see.ensures)

pub returns-in-Join : goal.returns-in-Join
returns-in-Join t c =
    let n = c.in-Join.field-0 in
    let op = c.in-Join.field-1 in
    let l = c.in-Join.left in
    let r = c.in-Join.right in
    let names = c.args.names.now.keys in
    let old = c.args.seen.now in
    let mid = c.see_outside-rest.new.seen in
    let new = c.see_outside.new.seen in
    let not_zero : c.args.at ≡ Some 0 → ⊥ = search rules in
    for_tree (named c.args.node.now) (Join n op.op (named l.value) (named r.value)) c.args.at c.see_outside.result names old new
    (ap named c.in-Join.is ∙ named_join n op l r)
    (seen_join n op.op (named l.value) (named r.value) c.args.at c.one_less-in-Join.result c.see_outside-rest.result c.see_outside.result names old mid new
    not_zero c.one_less-in-Join.ensures
    (for_node c.deref.result.now l.value c.one_less-in-Join.result c.see_outside-rest.result names old mid c.deref.ensures c.see_outside-rest.ensures)
    (for_node c.deref-in-Join.result.now r.value c.see_outside-rest.result c.see_outside.result names mid new c.deref-in-Join.ensures c.see_outside.ensures))
