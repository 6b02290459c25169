use Rattle.mm_job.proofs.GrowthLemmas.{output_grows}
use Rattle.mm_job.proofs.laws.the_output_grows_with_the_text.Goals as goal

pub returns : goal.returns
returns c = output_grows
