use Rattle.mm_logic_laws.proofs.OccurrenceLawLemmas.{cells_of_what_occurs}
use Rattle.mm_logic_laws.proofs.cells_are_of_what_occurs.Goals as goal

pub returns : goal.returns
returns c = cells_of_what_occurs
