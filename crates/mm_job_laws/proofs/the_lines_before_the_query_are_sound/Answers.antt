use Rattle.mm_job_laws.proofs.SoundLemmas.{lines_are_sound}
use Rattle.mm_job_laws.proofs.the_lines_before_the_query_are_sound.Goals as goal

pub returns : goal.returns
returns c = lines_are_sound
