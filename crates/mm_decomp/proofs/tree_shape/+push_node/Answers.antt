use Rattle.std.proofs.Common.{rules, sym, subst}
use Rattle.std.specs.Prelude.{IfOk}
use Rattle.mm_decomp.specs.TreeShapes.{Follows}
use Rattle.mm_decomp.proofs.TreeShapeLemmas.{node_leaf, without_left, without_right, with_both}
use Rattle.mm_decomp.proofs.tree_shape.+push_node.Goals as goal

pub returns-in-Leaf : goal.returns-in-Leaf
returns-in-Leaf t c =
    subst (λ s. IfOk c.push_leaf.result (λ some. Follows s c.args.steps.now.items c.push_leaf.new.steps.items some))
    (sym (node_leaf c.args.node.now c.in-Leaf.leaf c.in-Leaf.is)) c.push_leaf.ensures

pub returns-then-not-on_left : goal.returns-then-not-on_left
returns-then-not-on_left t c =
    without_left c.args.node.now _ _ c.in-Join.left c.in-Join.right c.in-Join.is c.deref.result.now c.deref-in-Join.result.now (search rules) (search rules) _ _ c.args.steps.now.items _ _
    c.in_ok-on_left-in-Join.ensures c.in_ok-on_right-in-Join.ensures (search rules)

pub returns-then-not-on_right : goal.returns-then-not-on_right
returns-then-not-on_right t c =
    without_right c.args.node.now _ _ c.in-Join.left c.in-Join.right c.in-Join.is c.deref.result.now c.deref-in-Join.result.now (search rules) (search rules) _ _ c.args.steps.now.items _ _
    c.in_ok-on_left-in-Join.ensures c.in_ok-on_right-in-Join.ensures (search rules) (search rules)

pub returns-in_ok-push-in-Join : goal.returns-in_ok-push-in-Join
returns-in_ok-push-in-Join t c =
    with_both c.args.node.now _ _ c.in-Join.left c.in-Join.right c.in-Join.is c.deref.result.now c.deref-in-Join.result.now (search rules) (search rules) _ _ c.args.steps.now.items _ _ _
    c.in_ok-on_left-in-Join.ensures c.in_ok-on_right-in-Join.ensures (search rules) (search rules) (search rules)
