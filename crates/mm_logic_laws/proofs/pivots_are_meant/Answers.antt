use Rattle.mm_logic_laws.proofs.RowLemmas.{pivots-meant}
use Rattle.mm_logic_laws.proofs.pivots_are_meant.Goals as goal

pub returns : goal.returns
returns c = pivots-meant
