use Rattle.std.proofs.Common.{ap, arith}
use Rattle.mm_tree.specs.NamedTree.{depth}
use Rattle.mm_tree.specs.Places.{path_of}
use Rattle.mm_tree.specs.TreeValue.{TreeValue}
use Rattle.mm_tree.proofs.ReplaceLemmas.{path_is, depth_after}
use Rattle.mm_tree.proofs.tree.Tree.depth_at.Goals as goal

pub overflow_add-result : goal.overflow_add-result
overflow_add-result c =
    let tree = c.args.self.now.tree in
    let path = path_of c.args.place.now.number tree in
    let after = depth_after tree c.args.new.now.tree path (path_is c.args.place.now.number tree) in
    let high = after.2 in
    let deep = c.requires.deep in
    let shallow = c.self.invariant.valid.shallow in
    let inner = ap (λ (v : TreeValue). depth v.tree) c.self.view_is in
    let other = c.new.invariant.valid.shallow in
    let here = c.depth.ensures in
    let below = c.depth-2.ensures in
    omega arith

pub returns-clause-shallow : goal.returns-clause-shallow
returns-clause-shallow c =
    let shallow = c.self.invariant.valid.shallow in
    let inner = ap (λ (v : TreeValue). depth v.tree) c.self.view_is in
    omega arith
