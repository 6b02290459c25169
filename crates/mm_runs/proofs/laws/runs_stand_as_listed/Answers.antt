use Rattle.mm_runs.proofs.ListingLemmas.{to_list, from_list}
use Rattle.mm_runs.proofs.laws.runs_stand_as_listed.Goals as goal

pub returns : goal.returns
returns c f F lists T R = (to_list f F lists T R, from_list f F lists T R)
