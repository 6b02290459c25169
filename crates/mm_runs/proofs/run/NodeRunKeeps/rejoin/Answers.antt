use Rattle.mm_runs.proofs.CallLemmas.{makes_join}
use Rattle.mm_runs.proofs.run.NodeRunKeeps.rejoin.Goals as goal

pub returns-clause-makes : goal.returns-clause-makes
returns-clause-makes g c = makes_join _ c.args.op.now c.args.left.now c.args.right.now _ _ c.args.room c.join.result c.requires.left.within c.requires.right.within c.join.ensures.runs
