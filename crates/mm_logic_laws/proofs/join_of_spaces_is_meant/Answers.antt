use Rattle.mm_logic_laws.proofs.JoinRuleLemmas.{join_of_spaces_meant}
use Rattle.mm_logic_laws.proofs.join_of_spaces_is_meant.Goals as goal

pub returns : goal.returns
returns c = join_of_spaces_meant
