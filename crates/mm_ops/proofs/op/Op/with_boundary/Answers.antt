use Rattle.std.proofs.Common.{sym, ◌∙◌}
use Rattle.mm_ops.specs.OpValue.{operator}
use Rattle.mm_ops.proofs.ValidOps.{valid_op}
use Rattle.mm_ops.proofs.op.Op.with_boundary.Goals as goal

pub of_valid-requires : goal.of_valid-requires
of_valid-requires c =
    valid_op c.args.f (operator c.args.t1 c.args.t2 c.args.t3 c.args.c c.args.g1 c.args.g2 c.args.g3)
    (sym c.is_within_bounds.ensures ∙ c.if-not-is_within_bounds.false) c.requires.first c.requires.second c.requires.third
    (sym c.has_shape.ensures ∙ c.if-not-has_shape.false) (sym c.has_shape-else-not-has_shape.ensures ∙ c.if-not-has_shape-2.false)
    (sym c.has_shape-else-not-has_shape-2.ensures ∙ c.if-not-has_shape-3.false)
    (sym c.first_dependent.ensures ∙ c.in_default.is)
