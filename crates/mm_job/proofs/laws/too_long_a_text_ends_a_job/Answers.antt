use Rattle.mm_job.proofs.GrowthLemmas.{over_is_final}
use Rattle.mm_job.proofs.laws.too_long_a_text_ends_a_job.Goals as goal

pub returns : goal.returns
returns c = over_is_final
