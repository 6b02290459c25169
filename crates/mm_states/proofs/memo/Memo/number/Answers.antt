use Rattle.mm_states.specs.Memos.{joins_answer}
use Rattle.mm_states.specs.Numbered.{answer_by}
use Rattle.mm_states.proofs.NumberedLemmas.{forgets_after}
use Rattle.mm_states.proofs.memo.Memo.number.Goals as goal

pub returns-in-None-clause-forgets : goal.returns-in-None-clause-forgets
returns-in-None-clause-forgets c =
    let a = c.args.self.now in
    let m = c.make_room.new.self in
    let n = c.add.new.self in
    forgets_after (answer_by a.ops (joins_answer a.joins)) (answer_by m.ops (joins_answer m.joins)) (answer_by n.ops (joins_answer n.joins)) c.make_room.ensures.forgets c.add.ensures.forgets
