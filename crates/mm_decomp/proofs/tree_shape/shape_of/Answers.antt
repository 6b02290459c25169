use Rattle.mm_decomp.proofs.TreeShapeLemmas.{first_steps}
use Rattle.mm_decomp.proofs.tree_shape.shape_of.Goals as goal

pub of-requires : goal.of-requires
of-requires c = first_steps c.args.tree.now.f c.args.tree.now.tree _ _ _ _ c.node.ensures.tree c.node.ensures.valid c.requires
    c.in_ok-push_node.ensures c.in-true.is c.new-steps.ensures.items
