use Rattle.std.proofs.Common.{◌∙◌, sym}
use Rattle.mm_checker.proofs.SpaceLemmas.{span_is}
use Rattle.mm_checker.proofs.spaces.content_of_vector.Goals as goal

pub returns : goal.returns
returns c = span_is c.args.f c.args.vec.now c.span_of.result c.requires.digits c.span_of.ensures (sym c.is_zero.ensures ∙ c.if-is_zero.false)
