use Rattle.std.proofs.Common.{sym, ◌∙◌}
use Rattle.mm_sample.proofs.OperatorLemmas.{p_is_made}
use Rattle.mm_sample.proofs.operators.operator_p.Goals as goal

pub unreachable-requires-in_default-new : goal.unreachable-requires-in_default-new
unreachable-requires-in_default-new c =
    p_is_made c.args.f c.in-Some-Some.left c.in-Some-Some.right c.in_default-new.field-0
    (sym c.read.ensures.exact ∙ c.in-Some-Some.is-0) (sym c.read-2.ensures.exact ∙ c.in-Some-Some.is-1) c.in_default-new.ensures
