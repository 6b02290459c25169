use Rattle.std.proofs.Common.{inr}
use Rattle.mm_states.specs.Memos.{joins_answer}
use Rattle.mm_states.specs.Numbered.{answer_by}
use Rattle.mm_states.proofs.NumberedLemmas.{keeps_after, kept_by_number, keeps_numbered, number_within}
use Rattle.mm_states.proofs.memo.Memo.keep.Goals as goal

pub returns-in_err-number-clause-others : goal.returns-in_err-number-clause-others
returns-in_err-number-clause-others c o l r i h = inr (c.in_err-number.ensures.forgets o l r i h)

pub invariant_of-self-clause-known : goal.invariant_of-self-clause-known
invariant_of-self-clause-known c =
    let m = c.number.new.self in
    let n = c.in_ok-number.number in
    keeps_numbered m.ops (joins_answer m.joins) (joins_answer c.keep.new.self) n c.args.left c.args.right c.args.id (number_within m.ops c.args.op.now n c.in_ok-number.ensures.number) m.known c.keep.ensures.others

pub returns-clause-others : goal.returns-clause-others
returns-clause-others c =
    let a = c.args.self.now in
    let m = c.number.new.self in
    let n = c.in_ok-number.number in
    keeps_after (answer_by a.ops (joins_answer a.joins)) (answer_by m.ops (joins_answer m.joins)) (answer_by m.ops (joins_answer c.keep.new.self)) c.args.op.now c.args.left c.args.right c.args.id
    c.in_ok-number.ensures.forgets
    (kept_by_number m.ops c.args.op.now (joins_answer m.joins) (joins_answer c.keep.new.self) n c.args.left c.args.right c.args.id c.in_ok-number.ensures.number c.keep.ensures.others)
