use Rattle.mm_logic_laws.proofs.OccurrenceLawLemmas.{occurs_in_either}
use Rattle.mm_logic_laws.proofs.occurs_in_either.Goals as goal

pub returns : goal.returns
returns c = occurs_in_either
