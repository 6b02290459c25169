use Rattle.std.proofs.Common.{map, ap₂, ◌∙◌}
use Rattle.std.specs.List.{list_all, range_with_len}
use Rattle.mm_checker.specs.NodeLines.{choice, is_met}
use Rattle.mm_checker.specs.KeptNodes.{with_set, sets_of}
use Rattle.mm_checker.proofs.TableLemmas.{range_goes, range_ends, range_whole}
use Rattle.mm_checker.proofs.nodes.Node.are_all_met.Goals as goal

pub returns-then-not-are_met_with : goal.returns-then-not-are_met_with
returns-then-not-are_met_with c = λ trees node rows n t.
    range_ends (λ x. list_all (λ y. is_met (map (with_set (sets_of c.args.self.now)) rows)
    (choice c.args.least c.args.claims.now.leaves.entries c.args.claims.now.glues.entries trees node x y)) (range_with_len 0 c.rights-rights.result))
    c.lefts-x-end.result c.loop-x.x c.are_met_with.result c.loop-x-test.true (c.are_met_with.ensures trees node rows n t) c.if-not-are_met_with.true
    ∙ ap₂ (λ r l. list_all (λ x. list_all (λ y. is_met (map (with_set (sets_of c.args.self.now)) rows)
    (choice c.args.least c.args.claims.now.leaves.entries c.args.claims.now.glues.entries trees node x y)) (range_with_len 0 r)) (range_with_len 0 l))
    (c.rights-rights.ensures trees node n) (c.lefts-x-end.ensures trees node n)

pub loop-x-preserved : goal.loop-x-preserved
loop-x-preserved c = λ trees node rows n t.
    range_goes (λ x. list_all (λ y. is_met (map (with_set (sets_of c.args.self.now)) rows)
    (choice c.args.least c.args.claims.now.leaves.entries c.args.claims.now.glues.entries trees node x y)) (range_with_len 0 c.rights-rights.result))
    c.loop-x.x c.are_met_with.result (c.loop-x.invariant trees node rows n t) (c.are_met_with.ensures trees node rows n t) c.if-not-are_met_with.false

pub returns : goal.returns
returns c = λ trees node rows n t.
    range_whole (λ x. list_all (λ y. is_met (map (with_set (sets_of c.args.self.now)) rows)
    (choice c.args.least c.args.claims.now.leaves.entries c.args.claims.now.glues.entries trees node x y)) (range_with_len 0 c.rights-rights.result))
    c.lefts-x-end.result c.loop-x.x (c.loop-x.invariant trees node rows n t) c.loop-x-test.false c.loop-x.auto.x-end
    ∙ ap₂ (λ r l. list_all (λ x. list_all (λ y. is_met (map (with_set (sets_of c.args.self.now)) rows)
    (choice c.args.least c.args.claims.now.leaves.entries c.args.claims.now.glues.entries trees node x y)) (range_with_len 0 r)) (range_with_len 0 l))
    (c.rights-rights.ensures trees node n) (c.lefts-x-end.ensures trees node n)
