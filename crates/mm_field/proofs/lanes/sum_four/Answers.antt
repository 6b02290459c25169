use Rattle.std.proofs.Common.{ap, ◌∙◌}
use Rattle.mm_field.specs.declared.Field.TheVariants.{Four}
use Rattle.mm_field.specs.Digits.{plus}
use Rattle.mm_field.proofs.StepLemmas.{four_sum}
use Rattle.mm_field.proofs.lanes.sum_four.Goals as goal

pub returns : goal.returns
returns c =
    four_sum c.args.b c.times_four.result c.requires.right c.times_four.ensures.small ∙ ap (plus Four c.args.b) c.times_four.ensures.product
