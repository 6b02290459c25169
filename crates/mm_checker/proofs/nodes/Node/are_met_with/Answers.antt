use Rattle.std.proofs.Common.{map}
use Rattle.mm_checker.specs.NodeLines.{choice, is_met}
use Rattle.mm_checker.specs.KeptNodes.{with_set, sets_of}
use Rattle.mm_checker.proofs.TableLemmas.{range_goes, range_ends, range_whole}
use Rattle.mm_checker.proofs.nodes.Node.are_met_with.Goals as goal

pub returns-then-not-is_met : goal.returns-then-not-is_met
returns-then-not-is_met c = λ trees node rows n t.
    range_ends (λ y. is_met (map (with_set (sets_of c.args.self.now)) rows) (choice c.args.least c.args.claims.now.leaves.entries c.args.claims.now.glues.entries trees node c.args.x y))
    c.args.rights c.loop-y.y c.is_met.result c.loop-y-test.true (c.is_met.ensures trees node rows n t) c.if-not-is_met.true

pub loop-y-preserved : goal.loop-y-preserved
loop-y-preserved c = λ trees node rows n t.
    range_goes (λ y. is_met (map (with_set (sets_of c.args.self.now)) rows) (choice c.args.least c.args.claims.now.leaves.entries c.args.claims.now.glues.entries trees node c.args.x y))
    c.loop-y.y c.is_met.result (c.loop-y.invariant trees node rows n t) (c.is_met.ensures trees node rows n t) c.if-not-is_met.false

pub returns : goal.returns
returns c = λ trees node rows n t.
    range_whole (λ y. is_met (map (with_set (sets_of c.args.self.now)) rows) (choice c.args.least c.args.claims.now.leaves.entries c.args.claims.now.glues.entries trees node c.args.x y))
    c.args.rights c.loop-y.y (c.loop-y.invariant trees node rows n t) c.loop-y-test.false c.loop-y.auto.y-end
