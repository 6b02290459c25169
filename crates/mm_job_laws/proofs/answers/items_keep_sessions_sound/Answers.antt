use Rattle.mm_job_laws.proofs.ItemLemmas.{items_keep_sessions_sound}
use Rattle.mm_job_laws.proofs.answers.items_keep_sessions_sound.Goals as goal

pub returns : goal.returns
returns c = items_keep_sessions_sound
