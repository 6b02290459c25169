use Rattle.mm_job_laws.proofs.QueryLemmas.{lines_give_what_they_spell}
use Rattle.mm_job_laws.proofs.answers.query_lines_give_what_they_spell.Goals as goal

pub returns : goal.returns
returns c = lines_give_what_they_spell
