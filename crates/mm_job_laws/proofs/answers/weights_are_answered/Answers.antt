use Rattle.mm_job_laws.proofs.ItemLemmas.{weights_are_answered}
use Rattle.mm_job_laws.proofs.answers.weights_are_answered.Goals as goal

pub returns : goal.returns
returns c = weights_are_answered
