use Rattle.std.proofs.Common.{Some, None}
use Rattle.mm_base_auto.proofs.IndLemmas.{joined_value}
use Rattle.mm_base_auto.proofs.space.joined_spaces.Goals as goal

pub returns-in-Some-clause-value : goal.returns-in-Some-clause-value
returns-in-Some-clause-value c = joined_value c.args.op.now c.args.left.now c.args.right.now (Some c.in-Some.key) c.field-field.ensures.valid c.in-Some.ensures

pub returns-in-None-clause-value : goal.returns-in-None-clause-value
returns-in-None-clause-value c = joined_value c.args.op.now c.args.left.now c.args.right.now None c.field-field.ensures.valid c.in-None.ensures
