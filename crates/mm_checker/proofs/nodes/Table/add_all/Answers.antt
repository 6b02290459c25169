use Rattle.mm_checker.proofs.TableLemmas.{goes_at, ends_at, is_whole}
use Rattle.mm_checker.proofs.nodes.Table.add_all.Goals as goal

pub returns-then-not-branch : goal.returns-then-not-branch
returns-then-not-branch c =
    ends_at c.args.rows.now c.loop-i.i _ c.loop-i.self.rows.entries c.add.new.self.rows.entries c.loop-i-test.true c.loop-i.invariant c.in_ok-add.field-0 c.in_ok-add.ensures c.if-not-branch.true

pub loop-i-preserved : goal.loop-i-preserved
loop-i-preserved c =
    goes_at c.args.rows.now c.loop-i.i _ c.loop-i.self.rows.entries c.add.new.self.rows.entries c.loop-i-test.true c.loop-i.invariant c.in_ok-add.field-0 c.in_ok-add.ensures c.if-not-branch.false

pub returns : goal.returns
returns c = is_whole c.args.rows.now c.loop-i.i c.loop-i.self.rows.entries c.loop-i.invariant c.loop-i-test.false
