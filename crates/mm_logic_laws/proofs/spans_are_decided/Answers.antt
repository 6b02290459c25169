use Rattle.mm_logic_laws.proofs.JoinRuleLemmas.{spans_decided}
use Rattle.mm_logic_laws.proofs.spans_are_decided.Goals as goal

pub returns : goal.returns
returns c = spans_decided
