use Rattle.mm_states.specs.Memos.{joins_answer}
use Rattle.mm_states.proofs.NumberedLemmas.{none_numbered}
use Rattle.mm_states.proofs.memo.Memo.clear.Goals as goal

pub invariant_of-self-clause-known : goal.invariant_of-self-clause-known
invariant_of-self-clause-known c = none_numbered c.cut.new.self (joins_answer c.clear.new.self) c.clear.ensures
