use Rattle.mm_job_laws.proofs.AnswerLemmas.{output_begins_with_answer}
use Rattle.mm_job_laws.proofs.answers.the_output_begins_with_the_answer.Goals as goal

pub returns : goal.returns
returns c = output_begins_with_answer
