use Rattle.mm_job_laws.proofs.NodeLemmas.{elements_named_and_weighted}
use Rattle.mm_job_laws.proofs.trees.elements_are_named_and_weighted.Goals as goal

pub returns : goal.returns
returns c = elements_named_and_weighted
