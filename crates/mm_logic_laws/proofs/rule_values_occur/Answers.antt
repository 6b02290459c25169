use Rattle.mm_logic_laws.proofs.OccurrenceLawLemmas.{rule_values_occur}
use Rattle.mm_logic_laws.proofs.rule_values_occur.Goals as goal

pub returns : goal.returns
returns c = rule_values_occur
