use Rattle.std.proofs.Common.{◌*◌, ◌∙◌}
use Rattle.mm_field.proofs.StepLemmas.{three_step, same_rest}
use Rattle.mm_field.proofs.lanes.sum_three.Goals as goal

pub returns : goal.returns
returns c =
    c.less_three.ensures ∙ same_rest 3 c.args.b c.times_three.result (c.args.c * c.args.a) c.times_three.ensures.product
    ∙ three_step c.args.c c.args.a c.args.b c.requires.factor c.requires.left c.requires.right
