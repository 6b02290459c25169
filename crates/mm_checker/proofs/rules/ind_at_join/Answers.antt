use Rattle.mm_checker.proofs.SpaceLemmas.{dead_left, dead_right}
use Rattle.mm_checker.proofs.rules.ind_at_join.Goals as goal

pub returns-in_default-right : goal.returns-in_default-right
returns-in_default-right c = dead_right c.args.op.now.f c.args.op.now.op c.args.left.now c.args.right.now c.in_default-right.not-Space

pub returns-in_default : goal.returns-in_default
returns-in_default c = dead_left c.args.op.now.f c.args.op.now.op c.args.left.now c.args.right.now c.in_default.not-Space
