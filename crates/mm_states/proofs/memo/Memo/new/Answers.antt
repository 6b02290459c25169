use Rattle.mm_states.specs.Memos.{joins_answer}
use Rattle.mm_states.proofs.NumberedLemmas.{none_numbered}
use Rattle.mm_states.proofs.memo.Memo.new.Goals as goal

pub invariant_of-result-clause-known : goal.invariant_of-result-clause-known
invariant_of-result-clause-known c = none_numbered c.new.result (joins_answer c.new-2.result) c.new-2.ensures
