use Rattle.std.proofs.Common.{arith}
use Rattle.mm_space.proofs.SumSteps.{adding_start, adding_step, adding_zero, adding_end}
use Rattle.mm_space.proofs.rows.insert_all.Goals as goal

pub loop-i-init : goal.loop-i-init
loop-i-init c = adding_start c.args.f 24 c.args.r c.args.rows.now c.args.more.now c.requires.rows_held c.requires.more_held

pub loop-i-preserved-then-more-i-ne0 : goal.loop-i-preserved-then-more-i-ne0
loop-i-preserved-then-more-i-ne0 c =
    adding_step c.args.f 24 c.args.r c.args.rows.now c.args.more.now c.loop-i.i c.loop-i.rows c.insert.new.rows
    c.requires.rows_held c.requires.more_held (omega arith) c.loop-i.invariant c.insert.ensures.inserted

pub loop-i-preserved : goal.loop-i-preserved
loop-i-preserved c =
    adding_zero c.args.f 24 c.args.r c.args.rows.now c.args.more.now c.loop-i.i c.loop-i.rows
    c.requires.rows_held c.requires.more_held (omega arith) c.loop-i.invariant c.if-more-i-ne0.false

pub returns : goal.returns
returns c = record {
  held = c.loop-i.invariant.held;
  span = adding_end c.args.f 24 c.args.r c.args.rows.now c.args.more.now c.loop-i.i c.loop-i.rows (omega arith) c.loop-i.invariant;
}
