use Rattle.mm_job_laws.proofs.NodeLemmas.{weights_of_sets_fit}
use Rattle.mm_job_laws.proofs.trees.weights_of_sets_fit.Goals as goal

pub returns : goal.returns
returns c = weights_of_sets_fit
