use Rattle.mm_logic.proofs.GrowthLemmas.{AllBegin-grown}
use Rattle.mm_logic.specs.Occurrence.{occurring}
use Rattle.mm_nodes.specs.Demands.{frame}
use Rattle.mm_nodes.specs.Walks.{pair_types}
use Rattle.mm_nodes.proofs.StandsLemmas.{Laws}
use Rattle.mm_nodes.proofs.SketchLemmas.{known_later}
use Rattle.mm_nodes.proofs.build.add_and_learn.Given as given
use Rattle.mm_nodes.proofs.build.add_and_learn.Goals as goal

the_laws : (g : given.Over) → Laws g.N.Keeps
the_laws g =
    let k = g.met.N.Keeps in
    record { asks = k.asks; leaf_has = k.leaf_has; join_has = k.join_has; fits = k.fits; leaf_stays = k.leaf_stays; join_stays = k.join_stays; same_left = k.same_left; same_right = k.same_right; same_itself = k.same_itself; knows_join = k.knows_join; knows_stays = k.knows_stays }

pub returns-in-Ok-clause-sketches : goal.returns-in-Ok-clause-sketches
returns-in-Ok-clause-sketches g c =
    let F = g.A.Automaton.shape c.args.automaton.now in
    let olds = g.A.Automaton.lists c.args.automaton.now in
    let nows = g.A.Automaton.lists c.add_known.new.automaton in
    let op = c.args.op.now in
    c.learn.ensures.right F nows
    (known_later g.N.Keeps (the_laws g) F olds nows c.args.sketches.now.kept.entries (AllBegin-grown olds nows (occurring F (pair_types g.N.Keeps F olds op c.args.left.now c.args.right.now)) c.in-Ok.ensures.adds.grown) c.requires.sketches)
    (g.met.N.Keeps.knows_join (frame op.f F nows) op.op c.args.left.now c.args.right.now c.in-Ok.entry c.in-Ok.ensures.adds.is)
