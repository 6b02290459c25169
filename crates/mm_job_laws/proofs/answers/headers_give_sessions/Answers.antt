use Rattle.mm_job_laws.proofs.AnswerLemmas.{headers_give_sessions}
use Rattle.mm_job_laws.proofs.answers.headers_give_sessions.Goals as goal

pub returns : goal.returns
returns c = headers_give_sessions
