use Rattle.mm_checker.specs.Claims.{glued}
use Rattle.mm_checker.proofs.PutLemmas.{row_goes, row_ends}
use Rattle.mm_checker.proofs.rules.Glue.put_column.Goals as goal

pub returns-then-not-branch : goal.returns-then-not-branch
returns-then-not-branch c =
    row_ends (λ n. glued c.args.self.now.claims.now.glues.entries c.args.self.now.place c.args.self.now.op n c.args.right) c.args.lefts.now c.loop-i.i _ _ c.get.result c.in_ok-put.field-0 c.loop-i-test.true c.get.ensures c.in_ok-put.ensures c.if-not-branch.true

pub loop-i-preserved : goal.loop-i-preserved
loop-i-preserved c =
    row_goes (λ n. glued c.args.self.now.claims.now.glues.entries c.args.self.now.place c.args.self.now.op n c.args.right) c.args.lefts.now c.loop-i.i _ _ _ c.get.result c.in_ok-put.field-0 c.loop-i-test.true c.loop-i.invariant c.get.ensures
    c.in_ok-put.ensures c.if-not-branch.false
