use Rattle.std.proofs.Common.{sym, ap, ◌∙◌, arith}
use Rattle.mm_tree.specs.NamedTree.{boundary}
use Rattle.mm_tree.specs.Places.{path_of}
use Rattle.mm_tree.proofs.PartLemmas.{free_leaves, answers_on}
use Rattle.mm_tree.proofs.ReplaceLemmas.{path_is, depth_after, fault_boundary, fault_deep, fault_free}
use Rattle.mm_tree.proofs.tree.Tree.check_replace.Goals as goal

pub returns-then-old-given : goal.returns-then-old-given
returns-then-old-given c =
    fault_boundary c.args.self.now.tree c.args.new.now.tree (path_of c.args.place.now.number c.args.self.now.tree) c.boundary-old.result c.boundary-given.result
    (c.boundary-old.ensures ∙ ap boundary c.at-node.ensures) c.boundary-given.ensures c.if-old-given.true

pub returns-in-Err : goal.returns-in-Err
returns-in-Err c =
    let tree = c.args.self.now.tree in
    let same = sym (c.boundary-old.ensures ∙ ap boundary c.at-node.ensures) ∙ c.if-old-given.false ∙ c.boundary-given.ensures in
    answers_on tree c.args.new.now.tree (path_of c.args.place.now.number tree) c.in-Err.fault same c.in-Err.ensures

pub returns-then-depth_at-gt-MAX_DEPTH : goal.returns-then-depth_at-gt-MAX_DEPTH
returns-then-depth_at-gt-MAX_DEPTH c =
    let tree = c.args.self.now.tree in
    let new = c.args.new.now.tree in
    let at = c.args.place.now.number in
    let same = sym (c.boundary-old.ensures ∙ ap boundary c.at-node.ensures) ∙ c.if-old-given.false ∙ c.boundary-given.ensures in
    let leaves = free_leaves tree new (path_of at tree) c.in-Ok.ensures in
    let sum = depth_after tree new (path_of at tree) (path_is at tree) in
    let low = sum.0 in
    let deep = c.requires.deep in
    fault_deep tree new (path_of at tree) same leaves.free leaves.few (omega (arith, c.depth_at.ensures.value, c.if-depth_at-gt-MAX_DEPTH.true))

pub returns-else-depth_at-gt-MAX_DEPTH : goal.returns-else-depth_at-gt-MAX_DEPTH
returns-else-depth_at-gt-MAX_DEPTH c =
    let tree = c.args.self.now.tree in
    let new = c.args.new.now.tree in
    let at = c.args.place.now.number in
    let same = sym (c.boundary-old.ensures ∙ ap boundary c.at-node.ensures) ∙ c.if-old-given.false ∙ c.boundary-given.ensures in
    let leaves = free_leaves tree new (path_of at tree) c.in-Ok.ensures in
    let sum = depth_after tree new (path_of at tree) (path_is at tree) in
    let high = sum.1 in
    let deep = c.requires.deep in
    fault_free tree new (path_of at tree) same leaves.free leaves.few
    (let shallow = c.depth_at.ensures.shallow in let value = c.depth_at.ensures.value in let end = c.if-depth_at-gt-MAX_DEPTH.false in grind arith)
