use Rattle.mm_logic_laws.proofs.LeastLemmas.{pairs_have_all_types}
use Rattle.mm_logic_laws.proofs.pairs_of_firsts_have_all_types.Goals as goal

pub returns : goal.returns
returns c = pairs_have_all_types
