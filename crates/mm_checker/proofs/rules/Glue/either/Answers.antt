use Rattle.std.proofs.Common.{map}
use Rattle.mm_checker.specs.Claims.{glued}
use Rattle.mm_checker.proofs.PutLemmas.{either_left, either_right, either_both}
use Rattle.mm_checker.proofs.rules.Glue.either.Goals as goal

pub returns-then-not-branch : goal.returns-then-not-branch
returns-then-not-branch c =
    either_left (map (λ n. glued c.args.self.now.claims.now.glues.entries c.args.self.now.place c.args.self.now.op n c.args.right) c.args.lefts.now)
    (map (glued c.args.self.now.claims.now.glues.entries c.args.self.now.place c.args.self.now.op c.args.left) c.args.rights.now) _ _ c.in_ok-put_column.field-0 c.in_ok-put_column.ensures c.if-not-branch.true

pub returns-then-not-branch-2 : goal.returns-then-not-branch-2
returns-then-not-branch-2 c =
    either_right (map (λ n. glued c.args.self.now.claims.now.glues.entries c.args.self.now.place c.args.self.now.op n c.args.right) c.args.lefts.now)
    (map (glued c.args.self.now.claims.now.glues.entries c.args.self.now.place c.args.self.now.op c.args.left) c.args.rights.now) _ _ c.in_ok-put_row.field-0 c.in_ok-put_row.ensures c.if-not-branch-2.true

pub returns : goal.returns
returns c =
    either_both (map (λ n. glued c.args.self.now.claims.now.glues.entries c.args.self.now.place c.args.self.now.op n c.args.right) c.args.lefts.now)
    (map (glued c.args.self.now.claims.now.glues.entries c.args.self.now.place c.args.self.now.op c.args.left) c.args.rights.now) c.new-numbers.result.items _ _ c.in_ok-set_of.field-0
    c.in_ok-put_column.field-0 c.in_ok-put_row.field-0 c.new-numbers.ensures.items
    c.in_ok-put_column.ensures c.if-not-branch.false c.in_ok-put_row.ensures c.if-not-branch-2.false c.in_ok-set_of.ensures
