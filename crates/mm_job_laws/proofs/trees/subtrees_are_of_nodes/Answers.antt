use Rattle.mm_job_laws.proofs.NodeLemmas.{subtrees_are_of_nodes}
use Rattle.mm_job_laws.proofs.trees.subtrees_are_of_nodes.Goals as goal

pub returns : goal.returns
returns c = subtrees_are_of_nodes
