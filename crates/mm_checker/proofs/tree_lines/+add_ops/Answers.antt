use Rattle.std.proofs.Common.{subst, sym}
use Rattle.std.specs.Prelude.{OnOk}
use Rattle.mm_tree.specs.Nodes.{named, IsOver}
use Rattle.mm_checker.specs.Certificates.{op_named, first_op}
use Rattle.mm_checker.specs.KeptLines.{AreOps, only_op}
use Rattle.mm_checker.proofs.LineLemmas.{join_ok}
use Rattle.mm_checker.proofs.tree_lines.+add_ops.Goals as goal

pub returns-in_ok-add_ops-in-Join : goal.returns-in_ok-add_ops-in-Join
unfolding named IsOver
returns-in_ok-add_ops-in-Join t c = λ f g o h.
    let over = subst (IsOver f) c.in-Join.is o in
    let left = c.in_ok-add_ops-in-Join.ensures f _ (subst (IsOver f) (sym c.deref.ensures) over.1) (c.in_ok-add-in-Join.ensures f g over.0 h) in
    let right = c.add_ops-in-Join.ensures f _ (subst (IsOver f) (sym c.deref-in-Join.ensures) over.2) left in
    subst (λ node. OnOk c.add_ops-in-Join.result (AreOps f c.add_ops-in-Join.new.ops.kept.entries (λ n. first_op (g n) (op_named n (named node))))) (sym c.in-Join.is)
    (join_ok c.add_ops-in-Join.result f c.add_ops-in-Join.new.ops.kept.entries g c.in-Join.name c.in-Join.op.op (named c.in-Join.left.value) (named c.in-Join.right.value)
    (subst (λ r. OnOk c.add_ops-in-Join.result (AreOps f c.add_ops-in-Join.new.ops.kept.entries
    (λ n. first_op (first_op (first_op (g n) (only_op c.in-Join.name c.in-Join.op.op n)) (op_named n (named c.in-Join.left.value))) (op_named n (named r))))) c.deref-in-Join.ensures
    (subst (λ l. OnOk c.add_ops-in-Join.result (AreOps f c.add_ops-in-Join.new.ops.kept.entries
    (λ n. first_op (first_op (first_op (g n) (only_op c.in-Join.name c.in-Join.op.op n)) (op_named n (named l))) (op_named n (named c.deref-in-Join.result.now))))) c.deref.ensures right)))
