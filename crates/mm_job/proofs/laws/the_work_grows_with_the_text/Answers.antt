use Rattle.mm_job.proofs.WorkLemmas.{work_grows}
use Rattle.mm_job.proofs.laws.the_work_grows_with_the_text.Goals as goal

pub returns : goal.returns
returns c = work_grows
