use Rattle.mm_job_laws.proofs.RefusalLemmas.{output_refuses_rows_exactly}
use Rattle.mm_job_laws.proofs.the_output_refuses_rows_exactly_where_they_disagree.Goals as goal

pub returns : goal.returns
returns c = output_refuses_rows_exactly
