use Rattle.mm_logic_laws.proofs.PossibleValueLemmas.{rules_keep_values}
use Rattle.mm_logic_laws.proofs.rules_keep_values.Goals as goal

pub returns : goal.returns
returns c = rules_keep_values
