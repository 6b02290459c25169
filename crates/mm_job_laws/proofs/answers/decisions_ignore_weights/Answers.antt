use Rattle.mm_job_laws.proofs.EditLawLemmas.{decisions_ignore_weights}
use Rattle.mm_job_laws.proofs.answers.decisions_ignore_weights.Goals as goal

pub returns : goal.returns
returns c = decisions_ignore_weights
