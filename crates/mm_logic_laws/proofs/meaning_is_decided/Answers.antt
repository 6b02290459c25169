use Rattle.mm_logic_laws.proofs.MeaningLemmas.{meaning_decided}
use Rattle.mm_logic_laws.proofs.meaning_is_decided.Goals as goal

pub returns : goal.returns
returns c = meaning_decided
