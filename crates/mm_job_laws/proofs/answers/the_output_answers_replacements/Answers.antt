use Rattle.mm_job_laws.proofs.EditLawLemmas.{output_answers_replacements}
use Rattle.mm_job_laws.proofs.answers.the_output_answers_replacements.Goals as goal

pub returns : goal.returns
returns c = output_answers_replacements
