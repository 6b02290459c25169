use Rattle.mm_logic_laws.proofs.TreeLemmas.{weights_fit}
use Rattle.mm_logic_laws.proofs.weights_fit.Goals as goal

pub returns : goal.returns
returns c = weights_fit
