use Rattle.mm_minor.proofs.MinorLemmas.{minors_asked}
use Rattle.mm_minor.proofs.laws.minors_are_asked.Goals as goal

pub returns : goal.returns
returns c = minors_asked
