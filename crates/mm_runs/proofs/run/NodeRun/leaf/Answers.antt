use Rattle.mm_nodes.proofs.LetterLemmas.{can_read}
use Rattle.mm_runs.proofs.CallLemmas.{run_type, runs_of}
use Rattle.mm_runs.proofs.run.NodeRun.leaf.Goals as goal

pub leaf-requires : goal.leaf-requires
leaf-requires g c = can_read _ _ _ c.args.leaf.now 0 c.letter_of.result c.args.room c.requires c.letter_of.ensures

pub returns-clause-runs : goal.returns-clause-runs
returns-clause-runs g c = runs_of _ _ _ _ _ c.args.room c.leaf.result c.run_of.result (run_type (g.A.Automaton.shape c.args.automaton.now) c.args.leaf.now c.letter_of.result c.letter_of.ensures) c.run_of.ensures c.leaf.ensures.answer
