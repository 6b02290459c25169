use Rattle.std.specs.Prelude.{OnOk}
use Rattle.mm_nodes.specs.Sketches.{AreKnown}
use Rattle.std.proofs.Common.{rules, ◌<◌, refl, ap, subst, ◌∙◌, arith}
use Rattle.mm_logic.specs.Occurrence.{occurring}
use Rattle.mm_logic_laws.specs.ValueLaws.{types_by_rules}
use Rattle.mm_tree.specs.NamedTree.{nodes, shape}
use Rattle.mm_tree.specs.Nodes.{named, named_leaf}
use Rattle.mm_logic.proofs.GrowthLemmas.{AllBegin-grown}
use Rattle.mm_nodes.specs.Calls.{CanWalk}
use Rattle.mm_nodes.proofs.StandsLemmas.{Laws}
use Rattle.mm_nodes.proofs.RoomLemmas.{exact-then}
use Rattle.mm_nodes.proofs.WalkLemmas.{Meets, meets, meets_leaf, left_walks, right_walks, join_over, can_make, left_less, right_less, all_nodes, one_node}
use Rattle.mm_nodes.proofs.SketchLemmas.{known_later, known_so}
use Rattle.mm_nodes.proofs.NodeLemmas.{left_builds, right_builds, left_full, right_full, lasts_exact, left_fits, right_fits, few_kept, join_builds, leaf_builds, leaf_full}
use Rattle.mm_nodes.proofs.build.+build_with.Given as given
use Rattle.mm_nodes.proofs.build.+build_with.Goals as goal

the_laws : (g : given.Over) → Laws g.N.Keeps
the_laws g =
    let k = g.met.N.Keeps in
    record { asks = k.asks; leaf_has = k.leaf_has; join_has = k.join_has; fits = k.fits; leaf_stays = k.leaf_stays; join_stays = k.join_stays; same_left = k.same_left; same_right = k.same_right; same_itself = k.same_itself; knows_join = k.knows_join; knows_stays = k.knows_stays }

pub add_leaf-requires-clause-leaf : goal.add_leaf-requires-clause-leaf
add_leaf-requires-clause-leaf g t c = can_make _ _ _ c.args.limit c.args.node.now c.in-Leaf.leaf c.in-Leaf.is c.requires.can

pub build_with-requires : goal.build_with-requires
build_with-requires g t c =
    let n = c.in-Join.field-0 in
    let l = c.in-Join.left in
    let r = c.in-Join.right in
    let m : Meets c.args.node.now n c.in-Join.op l.value r.value = meets c.args.node.now n c.in-Join.op l r c.in-Join.is c.requires.can.over c.requires.can.valid in
    let walks : CanWalk (g.A.Automaton.shape c.args.automaton.now) (g.A.Automaton.field c.args.automaton.now) (g.A.Automaton.lists c.args.automaton.now) c.args.limit c.deref.result.now =
    left_walks _ _ _ _ (g.A.Automaton.lists c.args.automaton.now) _ c.args.limit c.args.node.now c.deref.result.now n c.in-Join.op l.value r.value m c.requires.can refl refl
    c.requires.can.exact c.requires.can.cells c.deref.ensures in
    let less : nodes (named c.deref.result.now) < nodes (named c.args.node.now) = left_less c.args.node.now n c.in-Join.op l.value r.value m c.deref.result.now c.deref.ensures in
    let down = c.decreases in
    search rules

pub build_with-requires-in-Ok-build_with : goal.build_with-requires-in-Ok-build_with
build_with-requires-in-Ok-build_with g t c =
    let n = c.in-Join.field-0 in
    let l = c.in-Join.left in
    let r = c.in-Join.right in
    let m : Meets c.args.node.now n c.in-Join.op l.value r.value = meets c.args.node.now n c.in-Join.op l r c.in-Join.is c.requires.can.over c.requires.can.valid in
    let walks : CanWalk (g.A.Automaton.shape c.build_with.new.automaton) (g.A.Automaton.field c.build_with.new.automaton) (g.A.Automaton.lists c.build_with.new.automaton) c.args.limit c.deref-in-Ok-build_with.result.now =
    right_walks _ _ _ _ (g.A.Automaton.lists c.args.automaton.now) _ c.args.limit c.args.node.now c.deref-in-Ok-build_with.result.now n c.in-Join.op l.value r.value m c.requires.can
    c.build_with.ensures.shape c.build_with.ensures.field
    (exact-then _ (g.A.Automaton.lists c.args.automaton.now) (g.A.Automaton.lists c.build_with.new.automaton) _ c.requires.can.exact c.in-Ok-build_with.ensures.builds.grown) c.in-Ok-build_with.ensures.builds.cells
    c.deref-in-Ok-build_with.ensures in
    let less : nodes (named c.deref-in-Ok-build_with.result.now) < nodes (named c.args.node.now) =
    right_less c.args.node.now n c.in-Join.op l.value r.value m c.deref-in-Ok-build_with.result.now c.deref-in-Ok-build_with.ensures in
    let known = known_so g.N.Keeps (g.A.Automaton.shape c.args.automaton.now) (g.A.Automaton.shape c.build_with.new.automaton) (g.A.Automaton.lists c.build_with.new.automaton) c.build_with.new.sketches.kept.entries
    c.build_with.ensures.shape c.in-Ok-build_with.ensures.sketches in
    let down = c.decreases in
    search rules

pub returns-in-Err-build_with-clause-builds : goal.returns-in-Err-build_with-clause-builds
returns-in-Err-build_with-clause-builds g t c =
    let n = c.in-Join.field-0 in
    let op = c.in-Join.op in
    let l = c.in-Join.left in
    let r = c.in-Join.right in
    let m : Meets c.args.node.now n op l.value r.value = meets c.args.node.now n op l r c.in-Join.is c.requires.can.over c.requires.can.valid in
    λ full. left_full g.N.Keeps (the_laws g) (g.A.Automaton.shape c.args.automaton.now) (g.A.Automaton.shape c.args.automaton.now) (g.A.Automaton.shape c.args.automaton.now) refl refl c.args.node.now n op l.value r.value m (g.A.Automaton.lists c.args.automaton.now) (g.A.Automaton.lists c.args.automaton.now) (g.A.Automaton.lists c.args.automaton.now) c.args.limit c.args.rows.now c.args.rows.now c.args.rows.now c.deref.result.now c.deref.ensures (c.in-Err-build_with.ensures.builds full)

pub returns-in-Err-build_with-2-clause-builds : goal.returns-in-Err-build_with-2-clause-builds
returns-in-Err-build_with-2-clause-builds g t c =
    let n = c.in-Join.field-0 in
    let op = c.in-Join.op in
    let l = c.in-Join.left in
    let r = c.in-Join.right in
    let m : Meets c.args.node.now n op l.value r.value = meets c.args.node.now n op l r c.in-Join.is c.requires.can.over c.requires.can.valid in
    let a = left_builds g.N.Keeps (the_laws g) (g.A.Automaton.shape c.args.automaton.now) (g.A.Automaton.shape c.build_with.new.automaton) (g.A.Automaton.shape c.build_with.new.automaton) c.build_with.ensures.shape c.build_with.ensures.shape c.args.node.now n op l.value r.value m (g.A.Automaton.lists c.args.automaton.now) (g.A.Automaton.lists c.build_with.new.automaton) (g.A.Automaton.lists c.build_with.new.automaton) c.args.limit c.args.rows.now c.build_with.new.rows c.build_with.new.rows c.deref.result.now c.in-Ok-build_with.first c.deref.ensures c.in-Ok-build_with.ensures.builds in
    λ full. right_full g.N.Keeps (the_laws g) (g.A.Automaton.shape c.args.automaton.now) (g.A.Automaton.shape c.build_with.new.automaton) (g.A.Automaton.shape c.build_with.new.automaton) c.build_with.ensures.shape c.build_with.ensures.shape c.args.node.now n op l.value r.value m (g.A.Automaton.lists c.args.automaton.now) (g.A.Automaton.lists c.build_with.new.automaton) (g.A.Automaton.lists c.build_with.new.automaton) c.args.limit c.args.rows.now c.build_with.new.rows c.build_with.new.rows c.in-Ok-build_with.first a c.deref-in-Ok-build_with.result.now c.deref-in-Ok-build_with.ensures (c.in-Err-build_with-2.ensures.builds full)

pub join_parts-requires-clause-over : goal.join_parts-requires-clause-over
join_parts-requires-clause-over g t c =
    let n = c.in-Join.field-0 in
    let op = c.in-Join.op in
    let l = c.in-Join.left in
    let r = c.in-Join.right in
    let m : Meets c.args.node.now n op l.value r.value = meets c.args.node.now n op l r c.in-Join.is c.requires.can.over c.requires.can.valid in
    join_over _ _ _ _ (g.A.Automaton.lists c.args.automaton.now) (g.A.Automaton.lists c.args.automaton.now) c.args.limit c.args.node.now c.deref.result.now n op l.value r.value m c.requires.can (c.build_with-in-Ok-build_with.ensures.shape ∙ c.build_with.ensures.shape) (c.build_with-in-Ok-build_with.ensures.field ∙ c.build_with.ensures.field) c.requires.can.exact c.requires.can.cells

pub join_parts-requires-clause-left : goal.join_parts-requires-clause-left
join_parts-requires-clause-left g t c =
    let n = c.in-Join.field-0 in
    let op = c.in-Join.op in
    let l = c.in-Join.left in
    let r = c.in-Join.right in
    let m : Meets c.args.node.now n op l.value r.value = meets c.args.node.now n op l r c.in-Join.is c.requires.can.over c.requires.can.valid in
    let a = left_builds g.N.Keeps (the_laws g) (g.A.Automaton.shape c.args.automaton.now) (g.A.Automaton.shape c.build_with.new.automaton) (g.A.Automaton.shape c.build_with-in-Ok-build_with.new.automaton) c.build_with.ensures.shape (c.build_with-in-Ok-build_with.ensures.shape ∙ c.build_with.ensures.shape) c.args.node.now n op l.value r.value m (g.A.Automaton.lists c.args.automaton.now) (g.A.Automaton.lists c.build_with.new.automaton) (g.A.Automaton.lists c.build_with-in-Ok-build_with.new.automaton) c.args.limit c.args.rows.now c.build_with.new.rows c.build_with-in-Ok-build_with.new.rows c.deref.result.now c.in-Ok-build_with.first c.deref.ensures c.in-Ok-build_with.ensures.builds in
    let b = right_builds g.N.Keeps (the_laws g) (g.A.Automaton.shape c.args.automaton.now) (g.A.Automaton.shape c.build_with.new.automaton) (g.A.Automaton.shape c.build_with-in-Ok-build_with.new.automaton) c.build_with.ensures.shape (c.build_with-in-Ok-build_with.ensures.shape ∙ c.build_with.ensures.shape) c.args.node.now n op l.value r.value m (g.A.Automaton.lists c.args.automaton.now) (g.A.Automaton.lists c.build_with.new.automaton) (g.A.Automaton.lists c.build_with-in-Ok-build_with.new.automaton) c.args.limit c.args.rows.now c.build_with.new.rows c.build_with-in-Ok-build_with.new.rows c.deref-in-Ok-build_with.result.now c.in-Ok-build_with-2.second c.deref-in-Ok-build_with.ensures c.in-Ok-build_with-2.ensures.builds in
    left_fits g.N.Keeps (the_laws g) (g.A.Automaton.shape c.args.automaton.now) (g.A.Automaton.shape c.build_with.new.automaton) (g.A.Automaton.shape c.build_with-in-Ok-build_with.new.automaton) c.build_with.ensures.shape (c.build_with-in-Ok-build_with.ensures.shape ∙ c.build_with.ensures.shape) c.args.node.now n op l.value r.value m (g.A.Automaton.lists c.args.automaton.now) (g.A.Automaton.lists c.build_with.new.automaton) (g.A.Automaton.lists c.build_with-in-Ok-build_with.new.automaton) c.args.limit c.args.rows.now c.build_with.new.rows c.build_with-in-Ok-build_with.new.rows c.in-Ok-build_with.first a c.in-Ok-build_with-2.second b

pub join_parts-requires-clause-right : goal.join_parts-requires-clause-right
join_parts-requires-clause-right g t c =
    let n = c.in-Join.field-0 in
    let op = c.in-Join.op in
    let l = c.in-Join.left in
    let r = c.in-Join.right in
    let m : Meets c.args.node.now n op l.value r.value = meets c.args.node.now n op l r c.in-Join.is c.requires.can.over c.requires.can.valid in
    let a = left_builds g.N.Keeps (the_laws g) (g.A.Automaton.shape c.args.automaton.now) (g.A.Automaton.shape c.build_with.new.automaton) (g.A.Automaton.shape c.build_with-in-Ok-build_with.new.automaton) c.build_with.ensures.shape (c.build_with-in-Ok-build_with.ensures.shape ∙ c.build_with.ensures.shape) c.args.node.now n op l.value r.value m (g.A.Automaton.lists c.args.automaton.now) (g.A.Automaton.lists c.build_with.new.automaton) (g.A.Automaton.lists c.build_with-in-Ok-build_with.new.automaton) c.args.limit c.args.rows.now c.build_with.new.rows c.build_with-in-Ok-build_with.new.rows c.deref.result.now c.in-Ok-build_with.first c.deref.ensures c.in-Ok-build_with.ensures.builds in
    let b = right_builds g.N.Keeps (the_laws g) (g.A.Automaton.shape c.args.automaton.now) (g.A.Automaton.shape c.build_with.new.automaton) (g.A.Automaton.shape c.build_with-in-Ok-build_with.new.automaton) c.build_with.ensures.shape (c.build_with-in-Ok-build_with.ensures.shape ∙ c.build_with.ensures.shape) c.args.node.now n op l.value r.value m (g.A.Automaton.lists c.args.automaton.now) (g.A.Automaton.lists c.build_with.new.automaton) (g.A.Automaton.lists c.build_with-in-Ok-build_with.new.automaton) c.args.limit c.args.rows.now c.build_with.new.rows c.build_with-in-Ok-build_with.new.rows c.deref-in-Ok-build_with.result.now c.in-Ok-build_with-2.second c.deref-in-Ok-build_with.ensures c.in-Ok-build_with-2.ensures.builds in
    right_fits g.N.Keeps (the_laws g) (g.A.Automaton.shape c.args.automaton.now) (g.A.Automaton.shape c.build_with.new.automaton) (g.A.Automaton.shape c.build_with-in-Ok-build_with.new.automaton) c.build_with.ensures.shape (c.build_with-in-Ok-build_with.ensures.shape ∙ c.build_with.ensures.shape) c.args.node.now n op l.value r.value m (g.A.Automaton.lists c.args.automaton.now) (g.A.Automaton.lists c.build_with.new.automaton) (g.A.Automaton.lists c.build_with-in-Ok-build_with.new.automaton) c.args.limit c.args.rows.now c.build_with.new.rows c.build_with-in-Ok-build_with.new.rows c.in-Ok-build_with.first a c.in-Ok-build_with-2.second b

pub join_parts-requires-clause-exact : goal.join_parts-requires-clause-exact
join_parts-requires-clause-exact g t c =
    let n = c.in-Join.field-0 in
    let op = c.in-Join.op in
    let l = c.in-Join.left in
    let r = c.in-Join.right in
    let m : Meets c.args.node.now n op l.value r.value = meets c.args.node.now n op l r c.in-Join.is c.requires.can.over c.requires.can.valid in
    let a = left_builds g.N.Keeps (the_laws g) (g.A.Automaton.shape c.args.automaton.now) (g.A.Automaton.shape c.build_with.new.automaton) (g.A.Automaton.shape c.build_with-in-Ok-build_with.new.automaton) c.build_with.ensures.shape (c.build_with-in-Ok-build_with.ensures.shape ∙ c.build_with.ensures.shape) c.args.node.now n op l.value r.value m (g.A.Automaton.lists c.args.automaton.now) (g.A.Automaton.lists c.build_with.new.automaton) (g.A.Automaton.lists c.build_with-in-Ok-build_with.new.automaton) c.args.limit c.args.rows.now c.build_with.new.rows c.build_with-in-Ok-build_with.new.rows c.deref.result.now c.in-Ok-build_with.first c.deref.ensures c.in-Ok-build_with.ensures.builds in
    let b = right_builds g.N.Keeps (the_laws g) (g.A.Automaton.shape c.args.automaton.now) (g.A.Automaton.shape c.build_with.new.automaton) (g.A.Automaton.shape c.build_with-in-Ok-build_with.new.automaton) c.build_with.ensures.shape (c.build_with-in-Ok-build_with.ensures.shape ∙ c.build_with.ensures.shape) c.args.node.now n op l.value r.value m (g.A.Automaton.lists c.args.automaton.now) (g.A.Automaton.lists c.build_with.new.automaton) (g.A.Automaton.lists c.build_with-in-Ok-build_with.new.automaton) c.args.limit c.args.rows.now c.build_with.new.rows c.build_with-in-Ok-build_with.new.rows c.deref-in-Ok-build_with.result.now c.in-Ok-build_with-2.second c.deref-in-Ok-build_with.ensures c.in-Ok-build_with-2.ensures.builds in
    lasts_exact g.N.Keeps (the_laws g) (g.A.Automaton.shape c.args.automaton.now) (g.A.Automaton.shape c.build_with.new.automaton) (g.A.Automaton.shape c.build_with-in-Ok-build_with.new.automaton) c.build_with.ensures.shape (c.build_with-in-Ok-build_with.ensures.shape ∙ c.build_with.ensures.shape) c.args.node.now n op l.value r.value m (g.A.Automaton.lists c.args.automaton.now) (g.A.Automaton.lists c.build_with.new.automaton) (g.A.Automaton.lists c.build_with-in-Ok-build_with.new.automaton) c.args.limit c.args.rows.now c.build_with.new.rows c.build_with-in-Ok-build_with.new.rows c.in-Ok-build_with.first a c.in-Ok-build_with-2.second b c.requires.can.exact

pub join_parts-requires-clause-few : goal.join_parts-requires-clause-few
join_parts-requires-clause-few g t c =
    let n = c.in-Join.field-0 in
    let op = c.in-Join.op in
    let l = c.in-Join.left in
    let r = c.in-Join.right in
    let m : Meets c.args.node.now n op l.value r.value = meets c.args.node.now n op l r c.in-Join.is c.requires.can.over c.requires.can.valid in
    let a = left_builds g.N.Keeps (the_laws g) (g.A.Automaton.shape c.args.automaton.now) (g.A.Automaton.shape c.build_with.new.automaton) (g.A.Automaton.shape c.build_with-in-Ok-build_with.new.automaton) c.build_with.ensures.shape (c.build_with-in-Ok-build_with.ensures.shape ∙ c.build_with.ensures.shape) c.args.node.now n op l.value r.value m (g.A.Automaton.lists c.args.automaton.now) (g.A.Automaton.lists c.build_with.new.automaton) (g.A.Automaton.lists c.build_with-in-Ok-build_with.new.automaton) c.args.limit c.args.rows.now c.build_with.new.rows c.build_with-in-Ok-build_with.new.rows c.deref.result.now c.in-Ok-build_with.first c.deref.ensures c.in-Ok-build_with.ensures.builds in
    let b = right_builds g.N.Keeps (the_laws g) (g.A.Automaton.shape c.args.automaton.now) (g.A.Automaton.shape c.build_with.new.automaton) (g.A.Automaton.shape c.build_with-in-Ok-build_with.new.automaton) c.build_with.ensures.shape (c.build_with-in-Ok-build_with.ensures.shape ∙ c.build_with.ensures.shape) c.args.node.now n op l.value r.value m (g.A.Automaton.lists c.args.automaton.now) (g.A.Automaton.lists c.build_with.new.automaton) (g.A.Automaton.lists c.build_with-in-Ok-build_with.new.automaton) c.args.limit c.args.rows.now c.build_with.new.rows c.build_with-in-Ok-build_with.new.rows c.deref-in-Ok-build_with.result.now c.in-Ok-build_with-2.second c.deref-in-Ok-build_with.ensures c.in-Ok-build_with-2.ensures.builds in
    few_kept g.N.Keeps (the_laws g) (g.A.Automaton.shape c.args.automaton.now) (g.A.Automaton.shape c.build_with.new.automaton) (g.A.Automaton.shape c.build_with-in-Ok-build_with.new.automaton) c.build_with.ensures.shape (c.build_with-in-Ok-build_with.ensures.shape ∙ c.build_with.ensures.shape) c.args.node.now n op l.value r.value m (g.A.Automaton.lists c.args.automaton.now) (g.A.Automaton.lists c.build_with.new.automaton) (g.A.Automaton.lists c.build_with-in-Ok-build_with.new.automaton) c.args.limit c.args.rows.now c.build_with.new.rows c.build_with-in-Ok-build_with.new.rows c.in-Ok-build_with.first a c.in-Ok-build_with-2.second b

pub returns-in-Ok-build_with-2-clause-builds : goal.returns-in-Ok-build_with-2-clause-builds
returns-in-Ok-build_with-2-clause-builds g t c =
    let n = c.in-Join.field-0 in
    let op = c.in-Join.op in
    let l = c.in-Join.left in
    let r = c.in-Join.right in
    let m : Meets c.args.node.now n op l.value r.value = meets c.args.node.now n op l r c.in-Join.is c.requires.can.over c.requires.can.valid in
    let a = left_builds g.N.Keeps (the_laws g) (g.A.Automaton.shape c.args.automaton.now) (g.A.Automaton.shape c.build_with.new.automaton) (g.A.Automaton.shape c.build_with-in-Ok-build_with.new.automaton) c.build_with.ensures.shape (c.build_with-in-Ok-build_with.ensures.shape ∙ c.build_with.ensures.shape) c.args.node.now n op l.value r.value m (g.A.Automaton.lists c.args.automaton.now) (g.A.Automaton.lists c.build_with.new.automaton) (g.A.Automaton.lists c.build_with-in-Ok-build_with.new.automaton) c.args.limit c.args.rows.now c.build_with.new.rows c.build_with-in-Ok-build_with.new.rows c.deref.result.now c.in-Ok-build_with.first c.deref.ensures c.in-Ok-build_with.ensures.builds in
    let b = right_builds g.N.Keeps (the_laws g) (g.A.Automaton.shape c.args.automaton.now) (g.A.Automaton.shape c.build_with.new.automaton) (g.A.Automaton.shape c.build_with-in-Ok-build_with.new.automaton) c.build_with.ensures.shape (c.build_with-in-Ok-build_with.ensures.shape ∙ c.build_with.ensures.shape) c.args.node.now n op l.value r.value m (g.A.Automaton.lists c.args.automaton.now) (g.A.Automaton.lists c.build_with.new.automaton) (g.A.Automaton.lists c.build_with-in-Ok-build_with.new.automaton) c.args.limit c.args.rows.now c.build_with.new.rows c.build_with-in-Ok-build_with.new.rows c.deref-in-Ok-build_with.result.now c.in-Ok-build_with-2.second c.deref-in-Ok-build_with.ensures c.in-Ok-build_with-2.ensures.builds in
    join_builds g.N.Keeps (the_laws g) (g.A.Automaton.shape c.args.automaton.now) (g.A.Automaton.shape c.build_with.new.automaton) (g.A.Automaton.shape c.build_with-in-Ok-build_with.new.automaton) c.build_with.ensures.shape (c.build_with-in-Ok-build_with.ensures.shape ∙ c.build_with.ensures.shape) c.args.node.now n op l.value r.value m (g.A.Automaton.lists c.args.automaton.now) (g.A.Automaton.lists c.build_with.new.automaton) (g.A.Automaton.lists c.build_with-in-Ok-build_with.new.automaton) c.args.limit c.args.rows.now c.build_with.new.rows c.build_with-in-Ok-build_with.new.rows c.in-Ok-build_with.first a c.in-Ok-build_with-2.second b _ _ _ c.join_parts.ensures.joins

pub returns-in-Ok-clause-builds : goal.returns-in-Ok-clause-builds
returns-in-Ok-clause-builds g t c =
    leaf_builds g.N.Keeps (the_laws g) (g.A.Automaton.shape c.args.automaton.now) c.args.node.now c.in-Leaf.leaf (meets_leaf c.args.node.now c.in-Leaf.leaf c.in-Leaf.is)
    (g.A.Automaton.lists c.args.automaton.now) c.args.limit c.args.rows.now (g.A.Automaton.lists c.add_leaf.new.automaton) _ c.in-Ok.entry c.in-Ok.ensures.adds

pub returns-in-Err-clause-builds : goal.returns-in-Err-clause-builds
returns-in-Err-clause-builds g t c = λ full.
    leaf_full g.N.Keeps (the_laws g) (g.A.Automaton.shape c.args.automaton.now) c.args.node.now c.in-Leaf.leaf (meets_leaf c.args.node.now c.in-Leaf.leaf c.in-Leaf.is)
    (g.A.Automaton.lists c.args.automaton.now) c.args.limit c.args.rows.now (c.in-Err.ensures.adds full)

pub returns-in-Ok-clause-ticks : goal.returns-in-Ok-clause-ticks
returns-in-Ok-clause-ticks g t c = let one = one_node c.args.node.now c.in-Leaf.leaf c.in-Leaf.is in let tick = c.add_leaf.ensures.tick in omega (arith, one, tick)

pub returns-in-Err-clause-ticks : goal.returns-in-Err-clause-ticks
returns-in-Err-clause-ticks g t c = let one = one_node c.args.node.now c.in-Leaf.leaf c.in-Leaf.is in let tick = c.add_leaf.ensures.tick in omega (arith, one, tick)

pub returns-in-Err-build_with-clause-ticks : goal.returns-in-Err-build_with-clause-ticks
returns-in-Err-build_with-clause-ticks g t c =
    let n = c.in-Join.field-0 in
    let op = c.in-Join.op in
    let l = c.in-Join.left in
    let r = c.in-Join.right in
    let m : Meets c.args.node.now n op l.value r.value = meets c.args.node.now n op l r c.in-Join.is c.requires.can.over c.requires.can.valid in
    let all = all_nodes c.args.node.now n op l.value r.value m in
    let first = c.build_with.ensures.ticks in
    let left = ap (λ x. nodes (named x)) c.deref.ensures in
    omega (arith, all, first, left)

pub returns-in-Err-build_with-2-clause-ticks : goal.returns-in-Err-build_with-2-clause-ticks
returns-in-Err-build_with-2-clause-ticks g t c =
    let n = c.in-Join.field-0 in
    let op = c.in-Join.op in
    let l = c.in-Join.left in
    let r = c.in-Join.right in
    let m : Meets c.args.node.now n op l.value r.value = meets c.args.node.now n op l r c.in-Join.is c.requires.can.over c.requires.can.valid in
    let all = all_nodes c.args.node.now n op l.value r.value m in
    let first = c.build_with.ensures.ticks in
    let left = ap (λ x. nodes (named x)) c.deref.ensures in
    let second = c.build_with-in-Ok-build_with.ensures.ticks in
    let right = ap (λ x. nodes (named x)) c.deref-in-Ok-build_with.ensures in
    omega (arith, all, first, left, second, right)

pub returns-in-Ok-build_with-2-clause-ticks : goal.returns-in-Ok-build_with-2-clause-ticks
returns-in-Ok-build_with-2-clause-ticks g t c =
    let n = c.in-Join.field-0 in
    let op = c.in-Join.op in
    let l = c.in-Join.left in
    let r = c.in-Join.right in
    let m : Meets c.args.node.now n op l.value r.value = meets c.args.node.now n op l r c.in-Join.is c.requires.can.over c.requires.can.valid in
    let all = all_nodes c.args.node.now n op l.value r.value m in
    let first = c.build_with.ensures.ticks in
    let left = ap (λ x. nodes (named x)) c.deref.ensures in
    let second = c.build_with-in-Ok-build_with.ensures.ticks in
    let right = ap (λ x. nodes (named x)) c.deref-in-Ok-build_with.ensures in
    let last = c.join_parts.ensures.tick in
    omega (arith, all, first, left, second, right, last)

pub join_parts-requires-clause-sketches : goal.join_parts-requires-clause-sketches
join_parts-requires-clause-sketches g t c =
    known_so g.N.Keeps (g.A.Automaton.shape c.build_with.new.automaton) (g.A.Automaton.shape c.build_with-in-Ok-build_with.new.automaton) (g.A.Automaton.lists c.build_with-in-Ok-build_with.new.automaton)
    c.build_with-in-Ok-build_with.new.sketches.kept.entries c.build_with-in-Ok-build_with.ensures.shape c.in-Ok-build_with-2.ensures.sketches

pub returns-in-Ok-build_with-2-clause-sketches : goal.returns-in-Ok-build_with-2-clause-sketches
returns-in-Ok-build_with-2-clause-sketches g t c =
    subst (λ F. OnOk c.join_parts.result (AreKnown g.N.Keeps F (g.A.Automaton.lists c.join_parts.new.automaton) c.join_parts.new.sketches.kept.entries))
    (c.build_with-in-Ok-build_with.ensures.shape ∙ c.build_with.ensures.shape) c.join_parts.ensures.sketches

pub returns-in-Ok-clause-sketches : goal.returns-in-Ok-clause-sketches
returns-in-Ok-clause-sketches g t c =
    known_later g.N.Keeps (the_laws g) (g.A.Automaton.shape c.args.automaton.now) (g.A.Automaton.lists c.args.automaton.now) (g.A.Automaton.lists c.add_leaf.new.automaton) c.args.sketches.now.kept.entries
    (AllBegin-grown (g.A.Automaton.lists c.args.automaton.now) (g.A.Automaton.lists c.add_leaf.new.automaton)
    (occurring (g.A.Automaton.shape c.args.automaton.now) (types_by_rules c.in-Leaf.leaf.field (g.N.Keeps.query (g.A.Automaton.shape c.args.automaton.now)) (shape (named_leaf c.in-Leaf.leaf)))) c.in-Ok.ensures.adds.grown) c.requires.sketches
