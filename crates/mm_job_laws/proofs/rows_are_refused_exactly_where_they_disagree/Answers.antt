use Rattle.mm_job_laws.proofs.RefusalLemmas.{rows_are_refused_exactly}
use Rattle.mm_job_laws.proofs.rows_are_refused_exactly_where_they_disagree.Goals as goal

pub returns : goal.returns
returns c = rows_are_refused_exactly
