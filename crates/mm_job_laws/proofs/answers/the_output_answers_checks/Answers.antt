use Rattle.mm_job_laws.proofs.ItemLemmas.{output_answers_checks}
use Rattle.mm_job_laws.proofs.answers.the_output_answers_checks.Goals as goal

pub returns : goal.returns
returns c = output_answers_checks
