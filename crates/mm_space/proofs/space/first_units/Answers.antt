use Rattle.std.proofs.Common.{arith, sym, ap₂, ◌∙◌, [], ◌∷◌, ◌++◌}
use Rattle.std.proofs.lemmas.List.{get_or-set_other, get_or-replicate}
use Rattle.mm_field.specs.Vectors.{zeros}
use Rattle.mm_space.proofs.HeadLemmas.{unit_taken, units_more}
use Rattle.mm_space.proofs.space.first_units.Goals as goal

pub of-requires-clause-zeros : goal.of-requires-clause-zeros
of-requires-clause-zeros c = λ k low l.
    let more = c.loop-k-test.true in
    let inside = c.requires.inside in
    get_or-set_other (zeros 24) c.loop-k.k k 1 0 (λ e. absurd (omega arith)) ∙ get_or-replicate 24 k 0 0 l

pub loop-k-preserved : goal.loop-k-preserved
loop-k-preserved c =
    let more = c.loop-k-test.true in
    let inside = c.requires.inside in
    let short = c.requires.short in
    c.push.ensures
    ∙ ap₂ (λ x y. x ++ y ∷ []) c.loop-k.invariant (c.of.ensures ∙ unit_taken c.args.r c.loop-k.k (omega arith) (omega arith))
    ∙ sym (units_more c.args.r c.loop-k.k)
