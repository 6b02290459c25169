use Rattle.mm_logic_laws.proofs.PossibleValueLemmas.{types_are_values}
use Rattle.mm_logic_laws.proofs.types_are_values.Goals as goal

pub returns : goal.returns
returns c = types_are_values
