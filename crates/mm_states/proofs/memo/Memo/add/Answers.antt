use Rattle.mm_states.specs.Memos.{joins_answer}
use Rattle.mm_states.proofs.NumberedLemmas.{add_number, add_forgets}
use Rattle.mm_states.proofs.memo.Memo.add.Goals as goal

pub returns-clause-number : goal.returns-clause-number
returns-clause-number c = add_number c.args.self.now.ops c.put.new.self c.args.op.now c.requires.absent c.put.result c.put.ensures.values c.put.ensures.place

pub returns-clause-forgets : goal.returns-clause-forgets
returns-clause-forgets c =
    let a = c.args.self.now in
    add_forgets a.ops c.put.new.self c.args.op.now c.requires.absent (joins_answer a.joins) c.put.result a.known c.put.ensures.values c.put.ensures.err
