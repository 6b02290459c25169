use Rattle.mm_base_auto.proofs.IndLemmas.{zero_is}
use Rattle.mm_base_auto.proofs.space.zero_value.Goals as goal

pub returns-clause-value : goal.returns-clause-value
returns-clause-value c = zero_is c.args.f c.args.t c.zero-key.result c.zero-key.ensures
