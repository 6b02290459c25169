use Rattle.std.proofs.Common.{◌<◌, get_or, subst}
use Rattle.mm_field.specs.Digits.{order}
use Rattle.mm_reference_meaning.proofs.AssignmentLemmas.{all_more, all_taken}
use Rattle.mm_reference_meaning.proofs.validity.are_digits.Goals as goal

pub loop-d-preserved : goal.loop-d-preserved
loop-d-preserved c =
    all_more (λ d. d < order c.args.f) c.args.v.now c.loop-d.d-index 0 c.loop-d-test.true c.loop-d.invariant (subst (λ q. get_or c.args.v.now c.loop-d.d-index 0 < q) c.q.ensures c.if-d-q.false)

pub returns-clause-yes : goal.returns-clause-yes
returns-clause-yes c e = all_taken (λ d. d < order c.args.f) c.args.v.now c.loop-d.d-index c.loop-d-test.false c.loop-d.invariant
