use Rattle.mm_job_laws.proofs.RefusalLemmas.{output_refuses_size_exactly}
use Rattle.mm_job_laws.proofs.the_output_refuses_sizes_exactly_where_they_are_over.Goals as goal

pub returns : goal.returns
returns c = output_refuses_size_exactly
