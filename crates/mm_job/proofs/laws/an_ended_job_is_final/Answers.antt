use Rattle.mm_job.proofs.JobLemmas.{ended_is_final}
use Rattle.mm_job.proofs.laws.an_ended_job_is_final.Goals as goal

pub returns : goal.returns
returns c = ended_is_final
