use Rattle.std.proofs.Common.{◌<◌}
use Rattle.mm_reference_meaning.proofs.AssignmentLemmas.{all_more, all_taken}
use Rattle.mm_reference_meaning.proofs.validity.are_few.Goals as goal

pub loop-k-preserved : goal.loop-k-preserved
loop-k-preserved c = all_more (λ k. k < 16) c.args.slots.now c.loop-k.k-index 0 c.loop-k-test.true c.loop-k.invariant c.if-k-ge16.false

pub returns-clause-yes : goal.returns-clause-yes
returns-clause-yes c e = all_taken (λ k. k < 16) c.args.slots.now c.loop-k.k-index c.loop-k-test.false c.loop-k.invariant
