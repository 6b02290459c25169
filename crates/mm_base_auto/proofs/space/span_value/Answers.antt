use Rattle.std.proofs.Common.{◌∙◌, sym}
use Rattle.mm_base_auto.proofs.IndLemmas.{span_is}
use Rattle.mm_base_auto.proofs.space.span_value.Goals as goal

pub returns-clause-value : goal.returns-clause-value
returns-clause-value c = span_is c.args.f c.args.vec.now c.span_of-key.result c.requires.digits c.span_of-key.ensures (sym c.is_zero.ensures ∙ c.if-is_zero.false)
