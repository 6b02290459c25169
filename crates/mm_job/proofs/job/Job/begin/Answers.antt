use Rattle.std.proofs.Common.{refl}
use Rattle.mm_job.proofs.JobLemmas.{first_live}
use Rattle.mm_job.proofs.job.Job.begin.Goals as goal

pub invariant_of-result : goal.invariant_of-result
invariant_of-result c = λ live. first_live _ refl c.new.ensures c.nothing_read.ensures
