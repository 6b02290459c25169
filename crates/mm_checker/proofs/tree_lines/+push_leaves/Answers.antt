use Rattle.std.proofs.Common.{subst, sym}
use Rattle.std.specs.Prelude.{OnOk}
use Rattle.mm_logic.specs.Tree.{IsValid}
use Rattle.mm_tree.specs.NamedTree.{shape}
use Rattle.mm_tree.specs.Nodes.{named, IsOver}
use Rattle.mm_checker.specs.NodeLines.{leaves}
use Rattle.mm_checker.specs.KeptLines.{PutsLeaves}
use Rattle.mm_checker.proofs.LineLemmas.{leaf_ok, leaves_ok}
use Rattle.mm_checker.proofs.tree_lines.+push_leaves.Goals as goal

pub returns-in-Leaf : goal.returns-in-Leaf
unfolding named IsOver shape
returns-in-Leaf t c = λ f o h.
    let over = subst (IsOver f) c.in-Leaf.is o in
    let valid = subst (λ n. IsValid f (shape (named n))) c.in-Leaf.is h in
    subst (λ n. OnOk c.push_leaf.result (PutsLeaves f c.args.all.now.items (leaves (named n)) c.push_leaf.new.all.items)) (sym c.in-Leaf.is)
    (leaf_ok c.push_leaf.result f c.args.all.now.items c.push_leaf.new.all.items _ c.push_leaf.ensures over.0 over.1 valid)

pub returns-in_ok-push_leaves-in-Join : goal.returns-in_ok-push_leaves-in-Join
unfolding named IsOver shape
returns-in_ok-push_leaves-in-Join t c = λ f o h.
    let over = subst (IsOver f) c.in-Join.is o in
    let valid = subst (λ n. IsValid f (shape (named n))) c.in-Join.is h in
    let left = c.in_ok-push_leaves-in-Join.ensures f (subst (IsOver f) (sym c.deref.ensures) over.1) (subst (λ n. IsValid f (shape (named n))) (sym c.deref.ensures) valid.3) in
    let right = c.push_leaves-in-Join.ensures f (subst (IsOver f) (sym c.deref-in-Join.ensures) over.2) (subst (λ n. IsValid f (shape (named n))) (sym c.deref-in-Join.ensures) valid.4) in
    subst (λ n. OnOk c.push_leaves-in-Join.result (PutsLeaves f c.args.all.now.items (leaves (named n)) c.push_leaves-in-Join.new.all.items)) (sym c.in-Join.is)
    (leaves_ok c.push_leaves-in-Join.result f c.args.all.now.items c.push_leaves.new.all.items c.push_leaves-in-Join.new.all.items (leaves (named c.in-Join.left.value)) (leaves (named c.in-Join.right.value))
    (subst (λ n. PutsLeaves f c.args.all.now.items (leaves (named n)) c.push_leaves.new.all.items) c.deref.ensures left)
    (subst (λ n. OnOk c.push_leaves-in-Join.result (PutsLeaves f c.push_leaves.new.all.items (leaves (named n)) c.push_leaves-in-Join.new.all.items)) c.deref-in-Join.ensures right))
