use Rattle.std.proofs.Common.{arith}
use Rattle.mm_space.proofs.SumSteps.{apart_start, apart_step, apart_zero, apart_end, apart_fails}
use Rattle.mm_space.proofs.rows.meet_in_zero.Goals as goal

pub loop-i-init : goal.loop-i-init
loop-i-init c = apart_start c.args.f 24 c.args.r c.args.rows.now c.args.more.now c.requires.rows_held c.requires.more_held

pub returns-then-not-insert : goal.returns-then-not-insert
returns-then-not-insert c =
    apart_fails c.args.f 24 c.args.r c.args.rows.now c.args.more.now c.loop-i.i c.loop-i.all
    c.requires.rows_held c.requires.more_held (omega arith) c.loop-i.invariant c.if-more-i-ne0.true
    (c.insert.ensures.inside c.if-not-insert.true)

pub loop-i-preserved-else-not-insert : goal.loop-i-preserved-else-not-insert
loop-i-preserved-else-not-insert c =
    apart_step c.args.f 24 c.args.r c.args.rows.now c.args.more.now c.loop-i.i c.loop-i.all c.insert.new.rows
    c.requires.rows_held c.requires.more_held (omega arith) c.loop-i.invariant c.insert.ensures.inserted
    (c.insert.ensures.outside c.if-not-insert.false)

pub loop-i-preserved : goal.loop-i-preserved
loop-i-preserved c =
    apart_zero c.args.f 24 c.args.r c.args.rows.now c.args.more.now c.loop-i.i c.loop-i.all
    c.requires.rows_held c.requires.more_held (omega arith) c.loop-i.invariant c.if-more-i-ne0.false

pub returns : goal.returns
returns c = apart_end c.args.f 24 c.args.r c.args.rows.now c.args.more.now c.loop-i.i c.loop-i.all (omega arith) c.loop-i.invariant
