use Rattle.mm_field.proofs.StepLemmas.{two_step}
use Rattle.mm_field.proofs.lanes.sum_two.Goals as goal

pub returns : goal.returns
returns c = two_step c.args.a c.args.b c.requires.left c.requires.right
