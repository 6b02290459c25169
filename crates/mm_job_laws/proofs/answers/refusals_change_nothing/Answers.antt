use Rattle.mm_job_laws.proofs.ItemLemmas.{refusals_change_nothing}
use Rattle.mm_job_laws.proofs.answers.refusals_change_nothing.Goals as goal

pub returns : goal.returns
returns c = refusals_change_nothing
