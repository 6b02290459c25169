use Rattle.std.proofs.Common.{◌<◌, sym, subst, arith}
use Rattle.mm_present.proofs.NodeLemmas.{nodes_at_join}
use Rattle.mm_tree.specs.NamedTree.{nodes}
use Rattle.mm_tree.specs.Nodes.{named}
use Rattle.mm_present.proofs.images.+count_internal.Goals as goal

pub count_internal-requires : goal.count_internal-requires
count_internal-requires t c =
    let m = nodes_at_join c.args.node.now c.in-Join.field-0 c.in-Join.op c.in-Join.left c.in-Join.right c.in-Join.is in
    let down = c.decreases in
    (subst (λ x. nodes (named x) < t) (sym c.deref.ensures) (omega arith), tt)

pub count_internal-requires-in-Join : goal.count_internal-requires-in-Join
count_internal-requires-in-Join t c =
    let m = nodes_at_join c.args.node.now c.in-Join.field-0 c.in-Join.op c.in-Join.left c.in-Join.right c.in-Join.is in
    let down = c.decreases in
    (subst (λ x. nodes (named x) < t) (sym c.deref-in-Join.ensures) (omega arith), tt)
