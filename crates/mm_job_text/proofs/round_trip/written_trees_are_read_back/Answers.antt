use Rattle.mm_job_text.proofs.WrittenTreeLemmas.{written_is_read}
use Rattle.mm_job_text.proofs.round_trip.written_trees_are_read_back.Goals as goal

pub returns : goal.returns
returns c = written_is_read
