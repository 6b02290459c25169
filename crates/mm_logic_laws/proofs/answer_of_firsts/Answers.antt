use Rattle.mm_logic_laws.proofs.LeastLemmas.{answer-of-firsts}
use Rattle.mm_logic_laws.proofs.answer_of_firsts.Goals as goal

pub returns : goal.returns
returns c = answer-of-firsts
