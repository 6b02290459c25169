use Rattle.std.proofs.Common.{subst, sym, ap, ◌≤◌, ◌≡◌, length, arith, None}
use Rattle.mm_ops.specs.Tables.{op_named as kept_op}
use Rattle.mm_tree.specs.NamedTree.{leaf_names}
use Rattle.mm_tree.specs.Nodes.{named}
use Rattle.mm_checker.specs.Certificates.{op_named}
use Rattle.mm_checker.specs.NodeLines.{leaves}
use Rattle.mm_checker.specs.KeptLines.{IsFound}
use Rattle.mm_checker.proofs.LineLemmas.{count_leaves}
use Rattle.mm_checker.proofs.tree_lines.TreeLines.of.Goals as goal

pub push_lines-requires : goal.push_lines-requires
push_lines-requires c =
    let few : length (leaf_names c.args.tree.now.tree) ≤ 8192 = c.node-node.ensures.valid.few in
    let n = count_leaves c.args.tree.now.tree in
    let e : length (leaves (named c.node-node.result.now)) ≡ length (leaves c.args.tree.now.tree) = ap (λ T. length (leaves T)) c.node-node.ensures.tree in
    omega arith

pub returns-clause-ops : goal.returns-clause-ops
returns-clause-ops c = λ name.
    let f = c.args.tree.now.f in
    subst (λ T. IsFound f (kept_op name c.add_ops.new.ops.kept.entries) (op_named name T)) c.node-node.ensures.tree
    (c.in_ok-add_ops.ensures f (λ n. None) c.node-node.ensures.over (λ n. subst (λ ops. IsFound f (kept_op n ops) None) (sym c.new-3.ensures) tt) name)
