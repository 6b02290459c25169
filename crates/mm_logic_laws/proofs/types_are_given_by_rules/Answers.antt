use Rattle.mm_logic_laws.proofs.RuleTypeLemmas.{given_by_rules}
use Rattle.mm_logic_laws.proofs.types_are_given_by_rules.Goals as goal

pub returns : goal.returns
returns c = given_by_rules
