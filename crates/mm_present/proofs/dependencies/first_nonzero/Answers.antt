use Rattle.mm_present.proofs.LeastLemmas.{first_by_clauses}
use Rattle.mm_present.proofs.dependencies.first_nonzero.Goals as goal

pub returns : goal.returns
returns c = first_by_clauses c.args.digits.now c.first_nonzero.result c.first_nonzero.ensures.found c.first_nonzero.ensures.least c.first_nonzero.ensures.none
