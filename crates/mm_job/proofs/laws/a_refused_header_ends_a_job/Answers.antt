use Rattle.mm_job.proofs.GrowthLemmas.{refused_is_final}
use Rattle.mm_job.proofs.laws.a_refused_header_ends_a_job.Goals as goal

pub returns : goal.returns
returns c = refused_is_final
