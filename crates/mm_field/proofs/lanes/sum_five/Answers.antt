use Rattle.std.proofs.Common.{◌*◌, ◌∙◌}
use Rattle.mm_field.proofs.StepLemmas.{five_step, same_rest}
use Rattle.mm_field.proofs.lanes.sum_five.Goals as goal

pub returns : goal.returns
returns c =
    c.less_five.ensures ∙ same_rest 5 c.args.b c.times_five.result (c.args.c * c.args.a) c.times_five.ensures.product
    ∙ five_step c.args.c c.args.a c.args.b c.requires.factor c.requires.left c.requires.right
