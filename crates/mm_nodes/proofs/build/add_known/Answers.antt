use Rattle.std.proofs.Common.{subst}
use Rattle.mm_nodes.specs.Sketches.{IsAt}
use Rattle.mm_nodes.proofs.SketchLemmas.{known_at, place_within}
use Rattle.mm_nodes.proofs.build.add_known.Goals as goal

pub at-requires : goal.at-requires
at-requires g c =
    let entries = c.args.sketches.now.kept.entries in
    place_within g.N.Keeps c.args.op.now entries c.in-Some.at (subst (λ place. IsAt c.args.op.now entries place) c.in-Some.is c.requires.place)

pub add_rejoin-requires-clause-known : goal.add_rejoin-requires-clause-known
add_rejoin-requires-clause-known g c =
    let entries = c.args.sketches.now.kept.entries in
    known_at g.N.Keeps (g.A.Automaton.shape c.args.automaton.now) (g.A.Automaton.lists c.args.automaton.now) c.args.op.now entries c.in-Some.at c.at.result.now c.requires.sketches
    (subst (λ place. IsAt c.args.op.now entries place) c.in-Some.is c.requires.place) c.at.ensures
