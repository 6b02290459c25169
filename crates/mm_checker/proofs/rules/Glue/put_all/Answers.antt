use Rattle.mm_checker.proofs.PutLemmas.{pairs_go, pairs_end}
use Rattle.mm_checker.proofs.rules.Glue.put_all.Goals as goal

pub returns-then-not-branch : goal.returns-then-not-branch
returns-then-not-branch c =
    pairs_end c.args.self.now.claims.now.glues.entries c.args.self.now.place c.args.self.now.op c.args.lefts.now c.args.rights.now c.loop-i.i _ _ c.in_ok-put_row.field-0 c.loop-i-test.true c.in_ok-put_row.ensures c.if-not-branch.true

pub loop-i-preserved : goal.loop-i-preserved
loop-i-preserved c =
    pairs_go c.args.self.now.claims.now.glues.entries c.args.self.now.place c.args.self.now.op c.args.lefts.now c.args.rights.now c.loop-i.i _ _ _ c.in_ok-put_row.field-0 c.loop-i-test.true c.loop-i.invariant
    c.in_ok-put_row.ensures c.if-not-branch.false
