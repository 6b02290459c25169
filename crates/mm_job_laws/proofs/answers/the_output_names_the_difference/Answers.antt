use Rattle.mm_job_laws.proofs.VerdictLemmas.{output_names_the_difference}
use Rattle.mm_job_laws.proofs.answers.the_output_names_the_difference.Goals as goal

pub returns : goal.returns
returns c = output_names_the_difference
