use Rattle.mm_ops.specs.Tables.{op_named}
use Rattle.mm_header.proofs.TreeLineLemmas.{join_counted}
use Rattle.mm_header.proofs.tree_lines.Trees.take_join.Goals as goal

-- the leaves stay counted
pub invariant_of-self : goal.invariant_of-self
invariant_of-self c =
    join_counted c.self.inside.leaves c.self.inside.builder c.join.new.self c.in_ok-name.name (op_named c.in_ok-name.name c.args.ops.now)
    c.join.result c.join.ensures.ok c.join.ensures.err c.self.invariant
