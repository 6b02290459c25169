use Rattle.mm_tree.specs.Nodes.{named_leaf}
use Rattle.mm_runs.proofs.CallLemmas.{makes_leaf}
use Rattle.mm_runs.proofs.run.NodeRunKeeps.leaf.Goals as goal

pub returns-clause-makes : goal.returns-clause-makes
returns-clause-makes g c = makes_leaf _ c.args.leaf.now.field (named_leaf c.args.leaf.now) _ _ c.args.room c.leaf.result c.leaf.ensures.runs
