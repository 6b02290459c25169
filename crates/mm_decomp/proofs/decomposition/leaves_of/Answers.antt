use Rattle.std.proofs.Common.{arith}
use Rattle.mm_decomp.proofs.ReadLemmas.{next_leaves}
use Rattle.mm_decomp.proofs.decomposition.leaves_of.Goals as goal

pub loop-i-preserved : goal.loop-i-preserved
loop-i-preserved c =
    next_leaves c.args.steps.now c.loop-i.i c.index-steps-i.result _ c.loop-i.names _ (omega (arith, c.loop-i-test.true)) c.index-steps-i.is
    c.loop-i.invariant c.in_ok-push_leaf.ensures
