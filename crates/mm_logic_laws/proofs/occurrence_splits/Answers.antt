use Rattle.mm_logic.proofs.OccurrenceLemmas.{occurrence-splits}
use Rattle.mm_logic_laws.proofs.occurrence_splits.Goals as goal

pub returns : goal.returns
returns c = occurrence-splits
