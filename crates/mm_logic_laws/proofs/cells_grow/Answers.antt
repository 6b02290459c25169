use Rattle.mm_logic.proofs.OccurrenceLemmas.{cells-grow}
use Rattle.mm_logic_laws.proofs.cells_grow.Goals as goal

pub returns : goal.returns
returns c = cells-grow
