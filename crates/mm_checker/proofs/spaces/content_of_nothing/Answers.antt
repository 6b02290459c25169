use Rattle.mm_checker.proofs.SpaceLemmas.{zero_is}
use Rattle.mm_checker.proofs.spaces.content_of_nothing.Goals as goal

pub returns : goal.returns
returns c = zero_is c.args.f c.args.t c.zero.result c.zero.ensures
