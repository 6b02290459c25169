use Rattle.mm_nodes.proofs.SketchLemmas.{none_known}
use Rattle.mm_nodes.proofs.build.build.Goals as goal

pub build_with-requires-clause-sketches : goal.build_with-requires-clause-sketches
build_with-requires-clause-sketches g c =
    none_known g.N.Keeps (g.A.Automaton.shape c.args.automaton.now) (g.A.Automaton.lists c.args.automaton.now) c.new-sketches.result.kept.entries c.new-sketches.ensures
