use Rattle.std.proofs.Common.{◌∷◌, ◌++◌, [], map, ap, ◌∙◌}
use Rattle.std.proofs.lemmas.List.{map_push}
use Rattle.mm_reference_meaning.specs.Formulas.{marks_of}
use Rattle.mm_reference_meaning.proofs.AssignmentLemmas.{assign_next}
use Rattle.mm_reference_meaning.proofs.meaning.assign.Goals as goal

pub loop-i-preserved : goal.loop-i-preserved
loop-i-preserved c =
    ap (map marks_of) c.in_ok-push.ensures.items
    ∙ map_push marks_of c.loop-i.assigned.items c.marked.result
    ∙ ap (λ ms. ms ++ (marks_of c.marked.result ∷ [])) c.loop-i.invariant
    ∙ assign_next c.args.k c.loop-i.i c.args.set.now c.args.marks.now c.marked.result c.loop-i-test.true c.requires.each c.marked.ensures
