use Rattle.mm_job_laws.proofs.EditLawLemmas.{sessions_may_begin}
use Rattle.mm_job_laws.proofs.answers.sessions_may_begin_with_the_present_tree.Goals as goal

pub returns : goal.returns
returns c = sessions_may_begin
