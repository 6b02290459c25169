use Rattle.mm_job_text.proofs.ReadTreeLemmas.{read_is_held}
use Rattle.mm_job_text.proofs.round_trip.read_trees_have_their_operators.Goals as goal

pub returns : goal.returns
returns c = read_is_held
