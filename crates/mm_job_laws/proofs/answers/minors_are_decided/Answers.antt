use Rattle.mm_job_laws.proofs.MinorLemmas.{minors_are_decided}
use Rattle.mm_job_laws.proofs.answers.minors_are_decided.Goals as goal

pub returns : goal.returns
returns c = minors_are_decided
