use Rattle.mm_field.proofs.StepLemmas.{four_high, four_low}
use Rattle.mm_field.proofs.lanes.twice_four.Goals as goal

pub returns-then-a-ge2-clause-product : goal.returns-then-a-ge2-clause-product
returns-then-a-ge2-clause-product c = four_high c.args.a c.if-a-ge2.true c.requires

pub returns-else-a-ge2-clause-product : goal.returns-else-a-ge2-clause-product
returns-else-a-ge2-clause-product c = four_low c.args.a c.if-a-ge2.false
