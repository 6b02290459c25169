use Rattle.mm_job_laws.proofs.AnswerLemmas.{lines_are_answers}
use Rattle.mm_job_laws.proofs.answers.answer_lines_are_answers.Goals as goal

pub returns : goal.returns
returns c = lines_are_answers
