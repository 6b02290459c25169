use Rattle.mm_logic_laws.proofs.LeastLemmas.{firsts-of-pairs}
use Rattle.mm_logic_laws.proofs.firsts_of_pairs.Goals as goal

pub returns : goal.returns
returns c = firsts-of-pairs
