use Rattle.std.proofs.Common.{rules, ◌≡◌, ◌<◌, ◌≤◌, ◌+◌, ◌-◌, [], ◌∷◌, length, Bool, true, false, not, refl, sym, ap, ◌∙◌, subst, arith}
use Rattle.mm_tree.specs.NamedTree.{nodes}
use Rattle.mm_tree.specs.Nodes.{named, field_of}
use Rattle.mm_tree.proofs.TreeLemmas.{few_nodes}
use Rattle.mm_nodes.specs.KeptTrees.{KeptTree, top, count, path_in}
use Rattle.mm_nodes.specs.KeptTrees.KeptTree.{Two}
use Rattle.mm_nodes.specs.KeptNodes.{tree_of, IsCounted}
use Rattle.mm_nodes.specs.Calls.{CanWalk}
use Rattle.mm_nodes.specs.Walks.{CanRemake, RemakesPath}
use Rattle.mm_nodes.proofs.StandsLemmas.{Laws}
use Rattle.mm_nodes.proofs.RoomLemmas.{exact_none}
use Rattle.mm_nodes.proofs.WalkLemmas.{Meets, meets, meets_leaf, left_walks, right_walks, join_over, left_less, right_less}
use Rattle.mm_nodes.proofs.RemakeLemmas.{path_here, at_place}
use Rattle.mm_nodes.proofs.StepUpLemmas.{left_way, right_way, left_below, right_below, left_exact, right_exact, left_known, right_known, left_made_fits, right_made_fits, left_other_fits, right_other_fits, left_remakes, right_remakes, left_below_full, right_below_full, path_short, no_leaf}
use Rattle.mm_nodes.proofs.remake.+remake.Given as given
use Rattle.mm_nodes.proofs.remake.+remake.Goals as goal

the_laws : (g : given.Over) → Laws g.N.Keeps
the_laws g =
    let k = g.met.N.Keeps in
    record { asks = k.asks; leaf_has = k.leaf_has; join_has = k.join_has; fits = k.fits; leaf_stays = k.leaf_stays; join_stays = k.join_stays; same_left = k.same_left; same_right = k.same_right; same_itself = k.same_itself; knows_join = k.knows_join; knows_stays = k.knows_stays }

not_false : (b : Bool) → not b ≡ false → b ≡ true
not_false true e = refl
not_false false e = sym e

pub returns-then-at-eq0-clause-remakes : goal.returns-then-at-eq0-clause-remakes
returns-then-at-eq0-clause-remakes g t c =
    let F = g.A.Automaton.shape c.args.automaton.now in
    let lists = g.A.Automaton.lists c.args.automaton.now in
    let f = field_of c.args.node.now in
    let T = named c.args.node.now in
    let R = tree_of c.args.kept.now in
    let new = tree_of c.args.new.now in
    let changed = not c.looks_same.result in
    let here = path_here c.args.at R c.if-at-eq0.true in
    let same : changed ≡ false → g.N.Keeps.Same (top new) (top R) = λ e.
    subst (λ n. g.N.Keeps.Same (top new) n) c.entry-then-at-eq0.ensures (subst (λ n. g.N.Keeps.Same n c.entry-then-at-eq0.result.now) c.entry.ensures (c.looks_same.ensures (not_false c.looks_same.result e))) in
    subst (λ p. RemakesPath g.N.Keeps F lists lists f T R new p c.args.made.now.items c.args.limit c.args.rows.now c.args.rows.now changed) (sym here)
    (subst (λ ms. RemakesPath g.N.Keeps F lists lists f T R new [] ms c.args.limit c.args.rows.now c.args.rows.now changed) (sym c.requires.none)
    (at_place g.N.Keeps F lists f T R new c.args.limit c.args.rows.now changed (subst (λ p. CanRemake g.N.Keeps F lists f T R new p) here c.requires.parts) same (exact_none F lists c.requires.can.exact)
    c.requires.can.cells c.requires.rows))

pub returns-in-Leaf-clause-remakes : goal.returns-in-Leaf-clause-remakes
returns-in-Leaf-clause-remakes g t c =
    absurd (no_leaf g.N.Keeps (g.A.Automaton.shape c.args.automaton.now) (g.A.Automaton.lists c.args.automaton.now) c.args.node.now c.in-Leaf.field-0 (tree_of c.args.kept.now) (tree_of c.args.new.now)
    c.in-Two.above.entry (tree_of c.in-Two.first.value) (tree_of c.in-Two.second.value) c.args.at (meets_leaf c.args.node.now c.in-Leaf.field-0 c.in-Leaf.is) (ap tree_of c.in-Two.is) c.if-at-eq0.false c.requires.parts)

pub remake-requires : goal.remake-requires
remake-requires g t c =
    let n = c.in-Join.field-0 in
    let op = c.in-Join.op in
    let l = c.in-Join.left in
    let r = c.in-Join.right in
    let m : Meets c.args.node.now n op l.value r.value = meets c.args.node.now n op l r c.in-Join.is c.requires.can.over c.requires.can.valid in
    let R : KeptTree g.row.N.Denot = tree_of c.args.kept.now in
    let a : KeptTree g.row.N.Denot = tree_of c.in-Two.first.value in
    let b : KeptTree g.row.N.Denot = tree_of c.in-Two.second.value in
    let kept : R ≡ Two c.in-Two.above.entry a b = ap tree_of c.in-Two.is in
    let before : c.nodes-before.result ≡ count a = c.nodes-before.ensures ∙ ap (λ x. count (tree_of x)) c.deref.ensures in
    let turn : c.args.at - 1 < count a = subst (λ k. c.args.at - 1 < k) before c.if-at-before.true in
    let walks : CanWalk (g.A.Automaton.shape c.args.automaton.now) (g.A.Automaton.field c.args.automaton.now) (g.A.Automaton.lists c.args.automaton.now) c.args.limit c.deref-then-at-before.result.now =
    left_walks _ _ _ _ (g.A.Automaton.lists c.args.automaton.now) _ c.args.limit c.args.node.now c.deref-then-at-before.result.now n op l.value r.value m c.requires.can refl refl c.requires.can.exact c.requires.can.cells c.deref-then-at-before.ensures in
    let less : nodes (named c.deref-then-at-before.result.now) < nodes (named c.args.node.now) = left_less c.args.node.now n op l.value r.value m c.deref-then-at-before.result.now c.deref-then-at-before.ensures in
    let below : CanRemake g.N.Keeps (g.A.Automaton.shape c.args.automaton.now) (g.A.Automaton.lists c.args.automaton.now) (field_of c.deref-then-at-before.result.now) (named c.deref-then-at-before.result.now) (tree_of c.deref-then-at-before-2.result.now) (tree_of c.args.new.now) (path_in (c.args.at - 1) (tree_of c.deref-then-at-before-2.result.now)) =
    left_below g.N.Keeps (the_laws g) (g.A.Automaton.shape c.args.automaton.now) c.args.node.now n op l.value r.value m R (tree_of c.args.new.now) c.in-Two.above.entry a b kept c.args.at c.if-at-eq0.false turn (c.args.at - 1) refl (g.A.Automaton.lists c.args.automaton.now) c.requires.parts c.deref-then-at-before.result.now (tree_of c.deref-then-at-before-2.result.now) c.deref-then-at-before.ensures (ap tree_of c.deref-then-at-before-2.ensures) in
    let sums = subst (IsCounted g.N.Keeps.rows) c.in-Two.is c.requires.counted in
    let counted : IsCounted g.N.Keeps.rows c.deref-then-at-before-2.result.now = subst (IsCounted g.N.Keeps.rows) (sym c.deref-then-at-before-2.ensures) sums.2 in
    let here : count (tree_of c.deref-then-at-before-2.result.now) ≡ count a = ap (λ x. count (tree_of x)) c.deref-then-at-before-2.ensures in
    let whole : count R ≡ count a + count b + 1 = ap count kept in
    let inside = c.requires.within in
    let within : (c.args.at - 1) < count (tree_of c.deref-then-at-before-2.result.now) = omega (arith, here, turn, whole, inside, before) in
    let down = c.decreases in
    search rules

pub step_from_left-requires-clause-over : goal.step_from_left-requires-clause-over
step_from_left-requires-clause-over g t c =
    let n = c.in-Join.field-0 in
    let op = c.in-Join.op in
    let l = c.in-Join.left in
    let r = c.in-Join.right in
    let m : Meets c.args.node.now n op l.value r.value = meets c.args.node.now n op l r c.in-Join.is c.requires.can.over c.requires.can.valid in
    let R : KeptTree g.row.N.Denot = tree_of c.args.kept.now in
    let a : KeptTree g.row.N.Denot = tree_of c.in-Two.first.value in
    let b : KeptTree g.row.N.Denot = tree_of c.in-Two.second.value in
    let kept : R ≡ Two c.in-Two.above.entry a b = ap tree_of c.in-Two.is in
    let before : c.nodes-before.result ≡ count a = c.nodes-before.ensures ∙ ap (λ x. count (tree_of x)) c.deref.ensures in
    let turn : c.args.at - 1 < count a = subst (λ k. c.args.at - 1 < k) before c.if-at-before.true in
    join_over _ _ _ _ (g.A.Automaton.lists c.args.automaton.now) (g.A.Automaton.lists c.args.automaton.now) c.args.limit c.args.node.now c.deref-then-at-before.result.now n op l.value r.value m c.requires.can c.remake.ensures.shape c.remake.ensures.field c.requires.can.exact c.requires.can.cells

pub step_from_left-requires-clause-left : goal.step_from_left-requires-clause-left
step_from_left-requires-clause-left g t c =
    let n = c.in-Join.field-0 in
    let op = c.in-Join.op in
    let l = c.in-Join.left in
    let r = c.in-Join.right in
    let m : Meets c.args.node.now n op l.value r.value = meets c.args.node.now n op l r c.in-Join.is c.requires.can.over c.requires.can.valid in
    let R : KeptTree g.row.N.Denot = tree_of c.args.kept.now in
    let a : KeptTree g.row.N.Denot = tree_of c.in-Two.first.value in
    let b : KeptTree g.row.N.Denot = tree_of c.in-Two.second.value in
    let kept : R ≡ Two c.in-Two.above.entry a b = ap tree_of c.in-Two.is in
    let before : c.nodes-before.result ≡ count a = c.nodes-before.ensures ∙ ap (λ x. count (tree_of x)) c.deref.ensures in
    let turn : c.args.at - 1 < count a = subst (λ k. c.args.at - 1 < k) before c.if-at-before.true in
    λ changed. left_made_fits g.N.Keeps (the_laws g) (g.A.Automaton.shape c.args.automaton.now) c.args.node.now n op l.value r.value m R (tree_of c.args.new.now) c.in-Two.above.entry a b kept c.args.at c.if-at-eq0.false turn (c.args.at - 1) refl (g.A.Automaton.lists c.args.automaton.now) c.requires.parts (g.A.Automaton.lists c.remake.new.automaton) c.args.limit c.args.rows.now c.remake.new.rows c.remake.new.made.items c.deref-then-at-before.result.now (tree_of c.deref-then-at-before-2.result.now) c.deref-then-at-before.ensures (ap tree_of c.deref-then-at-before-2.ensures) (g.A.Automaton.shape c.remake.new.automaton) c.in-Ok.changed c.remake.ensures.shape c.in-Ok.ensures.remakes changed

pub step_from_left-requires-clause-right : goal.step_from_left-requires-clause-right
step_from_left-requires-clause-right g t c =
    let n = c.in-Join.field-0 in
    let op = c.in-Join.op in
    let l = c.in-Join.left in
    let r = c.in-Join.right in
    let m : Meets c.args.node.now n op l.value r.value = meets c.args.node.now n op l r c.in-Join.is c.requires.can.over c.requires.can.valid in
    let R : KeptTree g.row.N.Denot = tree_of c.args.kept.now in
    let a : KeptTree g.row.N.Denot = tree_of c.in-Two.first.value in
    let b : KeptTree g.row.N.Denot = tree_of c.in-Two.second.value in
    let kept : R ≡ Two c.in-Two.above.entry a b = ap tree_of c.in-Two.is in
    let before : c.nodes-before.result ≡ count a = c.nodes-before.ensures ∙ ap (λ x. count (tree_of x)) c.deref.ensures in
    let turn : c.args.at - 1 < count a = subst (λ k. c.args.at - 1 < k) before c.if-at-before.true in
    λ changed. left_other_fits g.N.Keeps (the_laws g) (g.A.Automaton.shape c.args.automaton.now) c.args.node.now n op l.value r.value m R (tree_of c.args.new.now) c.in-Two.above.entry a b kept c.args.at c.if-at-eq0.false turn (c.args.at - 1) refl (g.A.Automaton.lists c.args.automaton.now) c.requires.parts (g.A.Automaton.lists c.remake.new.automaton) c.args.limit c.args.rows.now c.remake.new.rows c.remake.new.made.items c.deref-then-at-before.result.now (tree_of c.deref-then-at-before-2.result.now) c.deref-then-at-before.ensures (ap tree_of c.deref-then-at-before-2.ensures) (g.A.Automaton.shape c.remake.new.automaton) c.in-Ok.changed c.entry-in-Ok-2.result.now c.remake.ensures.shape (c.entry-in-Ok-2.ensures ∙ ap (λ x. top (tree_of x)) c.deref-in-Ok.ensures) c.in-Ok.ensures.remakes

pub step_from_left-requires-clause-exact : goal.step_from_left-requires-clause-exact
step_from_left-requires-clause-exact g t c =
    let n = c.in-Join.field-0 in
    let op = c.in-Join.op in
    let l = c.in-Join.left in
    let r = c.in-Join.right in
    let m : Meets c.args.node.now n op l.value r.value = meets c.args.node.now n op l r c.in-Join.is c.requires.can.over c.requires.can.valid in
    let R : KeptTree g.row.N.Denot = tree_of c.args.kept.now in
    let a : KeptTree g.row.N.Denot = tree_of c.in-Two.first.value in
    let b : KeptTree g.row.N.Denot = tree_of c.in-Two.second.value in
    let kept : R ≡ Two c.in-Two.above.entry a b = ap tree_of c.in-Two.is in
    let before : c.nodes-before.result ≡ count a = c.nodes-before.ensures ∙ ap (λ x. count (tree_of x)) c.deref.ensures in
    let turn : c.args.at - 1 < count a = subst (λ k. c.args.at - 1 < k) before c.if-at-before.true in
    left_exact g.N.Keeps (the_laws g) (g.A.Automaton.shape c.args.automaton.now) c.args.node.now n op l.value r.value m R (tree_of c.args.new.now) c.in-Two.above.entry a b kept c.args.at c.if-at-eq0.false turn (c.args.at - 1) refl (g.A.Automaton.lists c.args.automaton.now) c.requires.parts (g.A.Automaton.lists c.remake.new.automaton) c.args.limit c.args.rows.now c.remake.new.rows c.remake.new.made.items c.deref-then-at-before.result.now (tree_of c.deref-then-at-before-2.result.now) c.deref-then-at-before.ensures (ap tree_of c.deref-then-at-before-2.ensures) (g.A.Automaton.shape c.remake.new.automaton) c.in-Ok.changed c.remake.ensures.shape c.requires.can.exact c.in-Ok.ensures.remakes

pub step_from_left-requires-clause-known : goal.step_from_left-requires-clause-known
step_from_left-requires-clause-known g t c =
    let n = c.in-Join.field-0 in
    let op = c.in-Join.op in
    let l = c.in-Join.left in
    let r = c.in-Join.right in
    let m : Meets c.args.node.now n op l.value r.value = meets c.args.node.now n op l r c.in-Join.is c.requires.can.over c.requires.can.valid in
    let R : KeptTree g.row.N.Denot = tree_of c.args.kept.now in
    let a : KeptTree g.row.N.Denot = tree_of c.in-Two.first.value in
    let b : KeptTree g.row.N.Denot = tree_of c.in-Two.second.value in
    let kept : R ≡ Two c.in-Two.above.entry a b = ap tree_of c.in-Two.is in
    let before : c.nodes-before.result ≡ count a = c.nodes-before.ensures ∙ ap (λ x. count (tree_of x)) c.deref.ensures in
    let turn : c.args.at - 1 < count a = subst (λ k. c.args.at - 1 < k) before c.if-at-before.true in
    left_known g.N.Keeps (the_laws g) (g.A.Automaton.shape c.args.automaton.now) c.args.node.now n op l.value r.value m R (tree_of c.args.new.now) c.in-Two.above.entry a b kept c.args.at c.if-at-eq0.false turn (c.args.at - 1) refl (g.A.Automaton.lists c.args.automaton.now) c.requires.parts (g.A.Automaton.lists c.remake.new.automaton) c.args.limit c.args.rows.now c.remake.new.rows c.remake.new.made.items c.deref-then-at-before.result.now (tree_of c.deref-then-at-before-2.result.now) c.deref-then-at-before.ensures (ap tree_of c.deref-then-at-before-2.ensures) (g.A.Automaton.shape c.remake.new.automaton) c.in-Ok.changed c.entry-in-Ok.result.now c.remake.ensures.shape c.entry-in-Ok.ensures c.in-Ok.ensures.remakes

pub step_from_left-requires-clause-small : goal.step_from_left-requires-clause-small
step_from_left-requires-clause-small g t c =
    let n = c.in-Join.field-0 in
    let op = c.in-Join.op in
    let l = c.in-Join.left in
    let r = c.in-Join.right in
    let m : Meets c.args.node.now n op l.value r.value = meets c.args.node.now n op l r c.in-Join.is c.requires.can.over c.requires.can.valid in
    let R : KeptTree g.row.N.Denot = tree_of c.args.kept.now in
    let a : KeptTree g.row.N.Denot = tree_of c.in-Two.first.value in
    let b : KeptTree g.row.N.Denot = tree_of c.in-Two.second.value in
    let kept : R ≡ Two c.in-Two.above.entry a b = ap tree_of c.in-Two.is in
    let before : c.nodes-before.result ≡ count a = c.nodes-before.ensures ∙ ap (λ x. count (tree_of x)) c.deref.ensures in
    let turn : c.args.at - 1 < count a = subst (λ k. c.args.at - 1 < k) before c.if-at-before.true in
    let bounded = c.in-Ok.ensures.remakes.bounded in
    let short = path_short g.N.Keeps _ (path_in c.args.at R) (named c.args.node.now) R c.requires.parts.beside in
    let few = few_nodes (field_of c.args.node.now) (named c.args.node.now) c.requires.can.valid in
    let way : path_in c.args.at R ≡ true ∷ path_in (c.args.at - 1) a = left_way g.N.Keeps (the_laws g) (g.A.Automaton.shape c.args.automaton.now) c.args.node.now n op l.value r.value m R (tree_of c.args.new.now) c.in-Two.above.entry a b kept c.args.at c.if-at-eq0.false turn (c.args.at - 1) refl (g.A.Automaton.lists c.args.automaton.now) c.requires.parts in
    let long = ap length way in
    let same : length (path_in (c.args.at - 1) (tree_of c.deref-then-at-before-2.result.now)) ≡ length (path_in (c.args.at - 1) a) = ap (λ x. length (path_in (c.args.at - 1) (tree_of x))) c.deref-then-at-before-2.ensures in
    omega (arith, bounded, short, few, long, same)

pub returns-in-Ok-clause-ticks : goal.returns-in-Ok-clause-ticks
returns-in-Ok-clause-ticks g t c =
    let n = c.in-Join.field-0 in
    let op = c.in-Join.op in
    let l = c.in-Join.left in
    let r = c.in-Join.right in
    let m : Meets c.args.node.now n op l.value r.value = meets c.args.node.now n op l r c.in-Join.is c.requires.can.over c.requires.can.valid in
    let R : KeptTree g.row.N.Denot = tree_of c.args.kept.now in
    let a : KeptTree g.row.N.Denot = tree_of c.in-Two.first.value in
    let b : KeptTree g.row.N.Denot = tree_of c.in-Two.second.value in
    let kept : R ≡ Two c.in-Two.above.entry a b = ap tree_of c.in-Two.is in
    let before : c.nodes-before.result ≡ count a = c.nodes-before.ensures ∙ ap (λ x. count (tree_of x)) c.deref.ensures in
    let turn : c.args.at - 1 < count a = subst (λ k. c.args.at - 1 < k) before c.if-at-before.true in
    let way : path_in c.args.at R ≡ true ∷ path_in (c.args.at - 1) a = left_way g.N.Keeps (the_laws g) (g.A.Automaton.shape c.args.automaton.now) c.args.node.now n op l.value r.value m R (tree_of c.args.new.now) c.in-Two.above.entry a b kept c.args.at c.if-at-eq0.false turn (c.args.at - 1) refl (g.A.Automaton.lists c.args.automaton.now) c.requires.parts in
    let long = ap length way in
    let same : length (path_in (c.args.at - 1) (tree_of c.deref-then-at-before-2.result.now)) ≡ length (path_in (c.args.at - 1) a) = ap (λ x. length (path_in (c.args.at - 1) (tree_of x))) c.deref-then-at-before-2.ensures in
    let first = c.remake.ensures.ticks in
    let last = c.step_from_left.ensures.tick in
    omega (arith, long, same, first, last)

pub returns-in-Err-clause-ticks : goal.returns-in-Err-clause-ticks
returns-in-Err-clause-ticks g t c =
    let n = c.in-Join.field-0 in
    let op = c.in-Join.op in
    let l = c.in-Join.left in
    let r = c.in-Join.right in
    let m : Meets c.args.node.now n op l.value r.value = meets c.args.node.now n op l r c.in-Join.is c.requires.can.over c.requires.can.valid in
    let R : KeptTree g.row.N.Denot = tree_of c.args.kept.now in
    let a : KeptTree g.row.N.Denot = tree_of c.in-Two.first.value in
    let b : KeptTree g.row.N.Denot = tree_of c.in-Two.second.value in
    let kept : R ≡ Two c.in-Two.above.entry a b = ap tree_of c.in-Two.is in
    let before : c.nodes-before.result ≡ count a = c.nodes-before.ensures ∙ ap (λ x. count (tree_of x)) c.deref.ensures in
    let turn : c.args.at - 1 < count a = subst (λ k. c.args.at - 1 < k) before c.if-at-before.true in
    let way : path_in c.args.at R ≡ true ∷ path_in (c.args.at - 1) a = left_way g.N.Keeps (the_laws g) (g.A.Automaton.shape c.args.automaton.now) c.args.node.now n op l.value r.value m R (tree_of c.args.new.now) c.in-Two.above.entry a b kept c.args.at c.if-at-eq0.false turn (c.args.at - 1) refl (g.A.Automaton.lists c.args.automaton.now) c.requires.parts in
    let long = ap length way in
    let same : length (path_in (c.args.at - 1) (tree_of c.deref-then-at-before-2.result.now)) ≡ length (path_in (c.args.at - 1) a) = ap (λ x. length (path_in (c.args.at - 1) (tree_of x))) c.deref-then-at-before-2.ensures in
    let first = c.remake.ensures.ticks in
    omega (arith, long, same, first)

pub returns-in-Ok-clause-remakes : goal.returns-in-Ok-clause-remakes
returns-in-Ok-clause-remakes g t c =
    let n = c.in-Join.field-0 in
    let op = c.in-Join.op in
    let l = c.in-Join.left in
    let r = c.in-Join.right in
    let m : Meets c.args.node.now n op l.value r.value = meets c.args.node.now n op l r c.in-Join.is c.requires.can.over c.requires.can.valid in
    let R : KeptTree g.row.N.Denot = tree_of c.args.kept.now in
    let a : KeptTree g.row.N.Denot = tree_of c.in-Two.first.value in
    let b : KeptTree g.row.N.Denot = tree_of c.in-Two.second.value in
    let kept : R ≡ Two c.in-Two.above.entry a b = ap tree_of c.in-Two.is in
    let before : c.nodes-before.result ≡ count a = c.nodes-before.ensures ∙ ap (λ x. count (tree_of x)) c.deref.ensures in
    let turn : c.args.at - 1 < count a = subst (λ k. c.args.at - 1 < k) before c.if-at-before.true in
    left_remakes g.N.Keeps (the_laws g) (g.A.Automaton.shape c.args.automaton.now) c.args.node.now n op l.value r.value m R (tree_of c.args.new.now) c.in-Two.above.entry a b kept c.args.at c.if-at-eq0.false turn (c.args.at - 1) refl (g.A.Automaton.lists c.args.automaton.now) c.requires.parts (g.A.Automaton.lists c.remake.new.automaton) c.args.limit c.args.rows.now c.remake.new.rows c.remake.new.made.items c.deref-then-at-before.result.now (tree_of c.deref-then-at-before-2.result.now) c.deref-then-at-before.ensures (ap tree_of c.deref-then-at-before-2.ensures) (g.A.Automaton.shape c.remake.new.automaton) _ _ _ c.entry-in-Ok-2.result.now c.entry-in-Ok.result.now c.in-Ok.changed c.step_from_left.result c.remake.ensures.shape (c.entry-in-Ok-2.ensures ∙ ap (λ x. top (tree_of x)) c.deref-in-Ok.ensures) c.entry-in-Ok.ensures c.in-Ok.ensures.remakes c.step_from_left.ensures.steps_up

pub returns-in-Err-clause-remakes : goal.returns-in-Err-clause-remakes
returns-in-Err-clause-remakes g t c =
    let n = c.in-Join.field-0 in
    let op = c.in-Join.op in
    let l = c.in-Join.left in
    let r = c.in-Join.right in
    let m : Meets c.args.node.now n op l.value r.value = meets c.args.node.now n op l r c.in-Join.is c.requires.can.over c.requires.can.valid in
    let R : KeptTree g.row.N.Denot = tree_of c.args.kept.now in
    let a : KeptTree g.row.N.Denot = tree_of c.in-Two.first.value in
    let b : KeptTree g.row.N.Denot = tree_of c.in-Two.second.value in
    let kept : R ≡ Two c.in-Two.above.entry a b = ap tree_of c.in-Two.is in
    let before : c.nodes-before.result ≡ count a = c.nodes-before.ensures ∙ ap (λ x. count (tree_of x)) c.deref.ensures in
    let turn : c.args.at - 1 < count a = subst (λ k. c.args.at - 1 < k) before c.if-at-before.true in
    λ full. left_below_full g.N.Keeps (the_laws g) (g.A.Automaton.shape c.args.automaton.now) c.args.node.now n op l.value r.value m R (tree_of c.args.new.now) c.in-Two.above.entry a b kept c.args.at c.if-at-eq0.false turn (c.args.at - 1) refl (g.A.Automaton.lists c.args.automaton.now) c.requires.parts (g.A.Automaton.lists c.remake.new.automaton) c.args.limit c.args.rows.now c.remake.new.rows c.remake.new.made.items c.deref-then-at-before.result.now (tree_of c.deref-then-at-before-2.result.now) c.deref-then-at-before.ensures (ap tree_of c.deref-then-at-before-2.ensures) (c.in-Err.ensures.remakes full)

pub remake-requires-else-at-before : goal.remake-requires-else-at-before
remake-requires-else-at-before g t c =
    let n = c.in-Join.field-0 in
    let op = c.in-Join.op in
    let l = c.in-Join.left in
    let r = c.in-Join.right in
    let m : Meets c.args.node.now n op l.value r.value = meets c.args.node.now n op l r c.in-Join.is c.requires.can.over c.requires.can.valid in
    let R : KeptTree g.row.N.Denot = tree_of c.args.kept.now in
    let a : KeptTree g.row.N.Denot = tree_of c.in-Two.first.value in
    let b : KeptTree g.row.N.Denot = tree_of c.in-Two.second.value in
    let kept : R ≡ Two c.in-Two.above.entry a b = ap tree_of c.in-Two.is in
    let before : c.nodes-before.result ≡ count a = c.nodes-before.ensures ∙ ap (λ x. count (tree_of x)) c.deref.ensures in
    let turn : count a ≤ c.args.at - 1 = subst (λ k. k ≤ c.args.at - 1) before c.if-at-before.false in
    let lower : c.args.at - 1 - c.nodes-before.result ≡ c.args.at - 1 - count a = ap (λ k. c.args.at - 1 - k) before in
    let walks : CanWalk (g.A.Automaton.shape c.args.automaton.now) (g.A.Automaton.field c.args.automaton.now) (g.A.Automaton.lists c.args.automaton.now) c.args.limit c.deref-else-at-before.result.now =
    right_walks _ _ _ _ (g.A.Automaton.lists c.args.automaton.now) _ c.args.limit c.args.node.now c.deref-else-at-before.result.now n op l.value r.value m c.requires.can refl refl c.requires.can.exact c.requires.can.cells c.deref-else-at-before.ensures in
    let less : nodes (named c.deref-else-at-before.result.now) < nodes (named c.args.node.now) = right_less c.args.node.now n op l.value r.value m c.deref-else-at-before.result.now c.deref-else-at-before.ensures in
    let below : CanRemake g.N.Keeps (g.A.Automaton.shape c.args.automaton.now) (g.A.Automaton.lists c.args.automaton.now) (field_of c.deref-else-at-before.result.now) (named c.deref-else-at-before.result.now) (tree_of c.deref-else-at-before-2.result.now) (tree_of c.args.new.now) (path_in (c.args.at - 1 - c.nodes-before.result) (tree_of c.deref-else-at-before-2.result.now)) =
    right_below g.N.Keeps (the_laws g) (g.A.Automaton.shape c.args.automaton.now) c.args.node.now n op l.value r.value m R (tree_of c.args.new.now) c.in-Two.above.entry a b kept c.args.at c.if-at-eq0.false turn (c.args.at - 1 - c.nodes-before.result) lower (g.A.Automaton.lists c.args.automaton.now) c.requires.parts c.deref-else-at-before.result.now (tree_of c.deref-else-at-before-2.result.now) c.deref-else-at-before.ensures (ap tree_of c.deref-else-at-before-2.ensures) in
    let sums = subst (IsCounted g.N.Keeps.rows) c.in-Two.is c.requires.counted in
    let counted : IsCounted g.N.Keeps.rows c.deref-else-at-before-2.result.now = subst (IsCounted g.N.Keeps.rows) (sym c.deref-else-at-before-2.ensures) sums.3 in
    let here : count (tree_of c.deref-else-at-before-2.result.now) ≡ count b = ap (λ x. count (tree_of x)) c.deref-else-at-before-2.ensures in
    let whole : count R ≡ count a + count b + 1 = ap count kept in
    let inside = c.requires.within in
    let within : (c.args.at - 1 - c.nodes-before.result) < count (tree_of c.deref-else-at-before-2.result.now) = omega (arith, here, turn, whole, inside, before) in
    let down = c.decreases in
    search rules

pub step_from_right-requires-clause-over : goal.step_from_right-requires-clause-over
step_from_right-requires-clause-over g t c =
    let n = c.in-Join.field-0 in
    let op = c.in-Join.op in
    let l = c.in-Join.left in
    let r = c.in-Join.right in
    let m : Meets c.args.node.now n op l.value r.value = meets c.args.node.now n op l r c.in-Join.is c.requires.can.over c.requires.can.valid in
    let R : KeptTree g.row.N.Denot = tree_of c.args.kept.now in
    let a : KeptTree g.row.N.Denot = tree_of c.in-Two.first.value in
    let b : KeptTree g.row.N.Denot = tree_of c.in-Two.second.value in
    let kept : R ≡ Two c.in-Two.above.entry a b = ap tree_of c.in-Two.is in
    let before : c.nodes-before.result ≡ count a = c.nodes-before.ensures ∙ ap (λ x. count (tree_of x)) c.deref.ensures in
    let turn : count a ≤ c.args.at - 1 = subst (λ k. k ≤ c.args.at - 1) before c.if-at-before.false in
    let lower : c.args.at - 1 - c.nodes-before.result ≡ c.args.at - 1 - count a = ap (λ k. c.args.at - 1 - k) before in
    join_over _ _ _ _ (g.A.Automaton.lists c.args.automaton.now) (g.A.Automaton.lists c.args.automaton.now) c.args.limit c.args.node.now c.deref-else-at-before.result.now n op l.value r.value m c.requires.can c.remake-else-at-before.ensures.shape c.remake-else-at-before.ensures.field c.requires.can.exact c.requires.can.cells

pub step_from_right-requires-clause-right : goal.step_from_right-requires-clause-right
step_from_right-requires-clause-right g t c =
    let n = c.in-Join.field-0 in
    let op = c.in-Join.op in
    let l = c.in-Join.left in
    let r = c.in-Join.right in
    let m : Meets c.args.node.now n op l.value r.value = meets c.args.node.now n op l r c.in-Join.is c.requires.can.over c.requires.can.valid in
    let R : KeptTree g.row.N.Denot = tree_of c.args.kept.now in
    let a : KeptTree g.row.N.Denot = tree_of c.in-Two.first.value in
    let b : KeptTree g.row.N.Denot = tree_of c.in-Two.second.value in
    let kept : R ≡ Two c.in-Two.above.entry a b = ap tree_of c.in-Two.is in
    let before : c.nodes-before.result ≡ count a = c.nodes-before.ensures ∙ ap (λ x. count (tree_of x)) c.deref.ensures in
    let turn : count a ≤ c.args.at - 1 = subst (λ k. k ≤ c.args.at - 1) before c.if-at-before.false in
    let lower : c.args.at - 1 - c.nodes-before.result ≡ c.args.at - 1 - count a = ap (λ k. c.args.at - 1 - k) before in
    λ changed. right_made_fits g.N.Keeps (the_laws g) (g.A.Automaton.shape c.args.automaton.now) c.args.node.now n op l.value r.value m R (tree_of c.args.new.now) c.in-Two.above.entry a b kept c.args.at c.if-at-eq0.false turn (c.args.at - 1 - c.nodes-before.result) lower (g.A.Automaton.lists c.args.automaton.now) c.requires.parts (g.A.Automaton.lists c.remake-else-at-before.new.automaton) c.args.limit c.args.rows.now c.remake-else-at-before.new.rows c.remake-else-at-before.new.made.items c.deref-else-at-before.result.now (tree_of c.deref-else-at-before-2.result.now) c.deref-else-at-before.ensures (ap tree_of c.deref-else-at-before-2.ensures) (g.A.Automaton.shape c.remake-else-at-before.new.automaton) c.in-Ok-remake.changed c.remake-else-at-before.ensures.shape c.in-Ok-remake.ensures.remakes changed

pub step_from_right-requires-clause-left : goal.step_from_right-requires-clause-left
step_from_right-requires-clause-left g t c =
    let n = c.in-Join.field-0 in
    let op = c.in-Join.op in
    let l = c.in-Join.left in
    let r = c.in-Join.right in
    let m : Meets c.args.node.now n op l.value r.value = meets c.args.node.now n op l r c.in-Join.is c.requires.can.over c.requires.can.valid in
    let R : KeptTree g.row.N.Denot = tree_of c.args.kept.now in
    let a : KeptTree g.row.N.Denot = tree_of c.in-Two.first.value in
    let b : KeptTree g.row.N.Denot = tree_of c.in-Two.second.value in
    let kept : R ≡ Two c.in-Two.above.entry a b = ap tree_of c.in-Two.is in
    let before : c.nodes-before.result ≡ count a = c.nodes-before.ensures ∙ ap (λ x. count (tree_of x)) c.deref.ensures in
    let turn : count a ≤ c.args.at - 1 = subst (λ k. k ≤ c.args.at - 1) before c.if-at-before.false in
    let lower : c.args.at - 1 - c.nodes-before.result ≡ c.args.at - 1 - count a = ap (λ k. c.args.at - 1 - k) before in
    λ changed. right_other_fits g.N.Keeps (the_laws g) (g.A.Automaton.shape c.args.automaton.now) c.args.node.now n op l.value r.value m R (tree_of c.args.new.now) c.in-Two.above.entry a b kept c.args.at c.if-at-eq0.false turn (c.args.at - 1 - c.nodes-before.result) lower (g.A.Automaton.lists c.args.automaton.now) c.requires.parts (g.A.Automaton.lists c.remake-else-at-before.new.automaton) c.args.limit c.args.rows.now c.remake-else-at-before.new.rows c.remake-else-at-before.new.made.items c.deref-else-at-before.result.now (tree_of c.deref-else-at-before-2.result.now) c.deref-else-at-before.ensures (ap tree_of c.deref-else-at-before-2.ensures) (g.A.Automaton.shape c.remake-else-at-before.new.automaton) c.in-Ok-remake.changed c.entry-in-Ok-remake-2.result.now c.remake-else-at-before.ensures.shape (c.entry-in-Ok-remake-2.ensures ∙ ap (λ x. top (tree_of x)) c.deref-in-Ok-remake.ensures) c.in-Ok-remake.ensures.remakes

pub step_from_right-requires-clause-exact : goal.step_from_right-requires-clause-exact
step_from_right-requires-clause-exact g t c =
    let n = c.in-Join.field-0 in
    let op = c.in-Join.op in
    let l = c.in-Join.left in
    let r = c.in-Join.right in
    let m : Meets c.args.node.now n op l.value r.value = meets c.args.node.now n op l r c.in-Join.is c.requires.can.over c.requires.can.valid in
    let R : KeptTree g.row.N.Denot = tree_of c.args.kept.now in
    let a : KeptTree g.row.N.Denot = tree_of c.in-Two.first.value in
    let b : KeptTree g.row.N.Denot = tree_of c.in-Two.second.value in
    let kept : R ≡ Two c.in-Two.above.entry a b = ap tree_of c.in-Two.is in
    let before : c.nodes-before.result ≡ count a = c.nodes-before.ensures ∙ ap (λ x. count (tree_of x)) c.deref.ensures in
    let turn : count a ≤ c.args.at - 1 = subst (λ k. k ≤ c.args.at - 1) before c.if-at-before.false in
    let lower : c.args.at - 1 - c.nodes-before.result ≡ c.args.at - 1 - count a = ap (λ k. c.args.at - 1 - k) before in
    right_exact g.N.Keeps (the_laws g) (g.A.Automaton.shape c.args.automaton.now) c.args.node.now n op l.value r.value m R (tree_of c.args.new.now) c.in-Two.above.entry a b kept c.args.at c.if-at-eq0.false turn (c.args.at - 1 - c.nodes-before.result) lower (g.A.Automaton.lists c.args.automaton.now) c.requires.parts (g.A.Automaton.lists c.remake-else-at-before.new.automaton) c.args.limit c.args.rows.now c.remake-else-at-before.new.rows c.remake-else-at-before.new.made.items c.deref-else-at-before.result.now (tree_of c.deref-else-at-before-2.result.now) c.deref-else-at-before.ensures (ap tree_of c.deref-else-at-before-2.ensures) (g.A.Automaton.shape c.remake-else-at-before.new.automaton) c.in-Ok-remake.changed c.remake-else-at-before.ensures.shape c.requires.can.exact c.in-Ok-remake.ensures.remakes

pub step_from_right-requires-clause-known : goal.step_from_right-requires-clause-known
step_from_right-requires-clause-known g t c =
    let n = c.in-Join.field-0 in
    let op = c.in-Join.op in
    let l = c.in-Join.left in
    let r = c.in-Join.right in
    let m : Meets c.args.node.now n op l.value r.value = meets c.args.node.now n op l r c.in-Join.is c.requires.can.over c.requires.can.valid in
    let R : KeptTree g.row.N.Denot = tree_of c.args.kept.now in
    let a : KeptTree g.row.N.Denot = tree_of c.in-Two.first.value in
    let b : KeptTree g.row.N.Denot = tree_of c.in-Two.second.value in
    let kept : R ≡ Two c.in-Two.above.entry a b = ap tree_of c.in-Two.is in
    let before : c.nodes-before.result ≡ count a = c.nodes-before.ensures ∙ ap (λ x. count (tree_of x)) c.deref.ensures in
    let turn : count a ≤ c.args.at - 1 = subst (λ k. k ≤ c.args.at - 1) before c.if-at-before.false in
    let lower : c.args.at - 1 - c.nodes-before.result ≡ c.args.at - 1 - count a = ap (λ k. c.args.at - 1 - k) before in
    right_known g.N.Keeps (the_laws g) (g.A.Automaton.shape c.args.automaton.now) c.args.node.now n op l.value r.value m R (tree_of c.args.new.now) c.in-Two.above.entry a b kept c.args.at c.if-at-eq0.false turn (c.args.at - 1 - c.nodes-before.result) lower (g.A.Automaton.lists c.args.automaton.now) c.requires.parts (g.A.Automaton.lists c.remake-else-at-before.new.automaton) c.args.limit c.args.rows.now c.remake-else-at-before.new.rows c.remake-else-at-before.new.made.items c.deref-else-at-before.result.now (tree_of c.deref-else-at-before-2.result.now) c.deref-else-at-before.ensures (ap tree_of c.deref-else-at-before-2.ensures) (g.A.Automaton.shape c.remake-else-at-before.new.automaton) c.in-Ok-remake.changed c.entry-in-Ok-remake.result.now c.remake-else-at-before.ensures.shape c.entry-in-Ok-remake.ensures c.in-Ok-remake.ensures.remakes

pub step_from_right-requires-clause-small : goal.step_from_right-requires-clause-small
step_from_right-requires-clause-small g t c =
    let n = c.in-Join.field-0 in
    let op = c.in-Join.op in
    let l = c.in-Join.left in
    let r = c.in-Join.right in
    let m : Meets c.args.node.now n op l.value r.value = meets c.args.node.now n op l r c.in-Join.is c.requires.can.over c.requires.can.valid in
    let R : KeptTree g.row.N.Denot = tree_of c.args.kept.now in
    let a : KeptTree g.row.N.Denot = tree_of c.in-Two.first.value in
    let b : KeptTree g.row.N.Denot = tree_of c.in-Two.second.value in
    let kept : R ≡ Two c.in-Two.above.entry a b = ap tree_of c.in-Two.is in
    let before : c.nodes-before.result ≡ count a = c.nodes-before.ensures ∙ ap (λ x. count (tree_of x)) c.deref.ensures in
    let turn : count a ≤ c.args.at - 1 = subst (λ k. k ≤ c.args.at - 1) before c.if-at-before.false in
    let lower : c.args.at - 1 - c.nodes-before.result ≡ c.args.at - 1 - count a = ap (λ k. c.args.at - 1 - k) before in
    let bounded = c.in-Ok-remake.ensures.remakes.bounded in
    let short = path_short g.N.Keeps _ (path_in c.args.at R) (named c.args.node.now) R c.requires.parts.beside in
    let few = few_nodes (field_of c.args.node.now) (named c.args.node.now) c.requires.can.valid in
    let way : path_in c.args.at R ≡ false ∷ path_in (c.args.at - 1 - c.nodes-before.result) b = right_way g.N.Keeps (the_laws g) (g.A.Automaton.shape c.args.automaton.now) c.args.node.now n op l.value r.value m R (tree_of c.args.new.now) c.in-Two.above.entry a b kept c.args.at c.if-at-eq0.false turn (c.args.at - 1 - c.nodes-before.result) lower (g.A.Automaton.lists c.args.automaton.now) c.requires.parts in
    let long = ap length way in
    let same : length (path_in (c.args.at - 1 - c.nodes-before.result) (tree_of c.deref-else-at-before-2.result.now)) ≡ length (path_in (c.args.at - 1 - c.nodes-before.result) b) = ap (λ x. length (path_in (c.args.at - 1 - c.nodes-before.result) (tree_of x))) c.deref-else-at-before-2.ensures in
    omega (arith, bounded, short, few, long, same)

pub returns-in-Ok-remake-clause-remakes : goal.returns-in-Ok-remake-clause-remakes
returns-in-Ok-remake-clause-remakes g t c =
    let n = c.in-Join.field-0 in
    let op = c.in-Join.op in
    let l = c.in-Join.left in
    let r = c.in-Join.right in
    let m : Meets c.args.node.now n op l.value r.value = meets c.args.node.now n op l r c.in-Join.is c.requires.can.over c.requires.can.valid in
    let R : KeptTree g.row.N.Denot = tree_of c.args.kept.now in
    let a : KeptTree g.row.N.Denot = tree_of c.in-Two.first.value in
    let b : KeptTree g.row.N.Denot = tree_of c.in-Two.second.value in
    let kept : R ≡ Two c.in-Two.above.entry a b = ap tree_of c.in-Two.is in
    let before : c.nodes-before.result ≡ count a = c.nodes-before.ensures ∙ ap (λ x. count (tree_of x)) c.deref.ensures in
    let turn : count a ≤ c.args.at - 1 = subst (λ k. k ≤ c.args.at - 1) before c.if-at-before.false in
    let lower : c.args.at - 1 - c.nodes-before.result ≡ c.args.at - 1 - count a = ap (λ k. c.args.at - 1 - k) before in
    right_remakes g.N.Keeps (the_laws g) (g.A.Automaton.shape c.args.automaton.now) c.args.node.now n op l.value r.value m R (tree_of c.args.new.now) c.in-Two.above.entry a b kept c.args.at c.if-at-eq0.false turn (c.args.at - 1 - c.nodes-before.result) lower (g.A.Automaton.lists c.args.automaton.now) c.requires.parts (g.A.Automaton.lists c.remake-else-at-before.new.automaton) c.args.limit c.args.rows.now c.remake-else-at-before.new.rows c.remake-else-at-before.new.made.items c.deref-else-at-before.result.now (tree_of c.deref-else-at-before-2.result.now) c.deref-else-at-before.ensures (ap tree_of c.deref-else-at-before-2.ensures) (g.A.Automaton.shape c.remake-else-at-before.new.automaton) _ _ _ c.entry-in-Ok-remake-2.result.now c.entry-in-Ok-remake.result.now c.in-Ok-remake.changed c.step_from_right.result c.remake-else-at-before.ensures.shape (c.entry-in-Ok-remake-2.ensures ∙ ap (λ x. top (tree_of x)) c.deref-in-Ok-remake.ensures) c.entry-in-Ok-remake.ensures c.in-Ok-remake.ensures.remakes c.step_from_right.ensures.steps_up

pub returns-in-Err-remake-clause-remakes : goal.returns-in-Err-remake-clause-remakes
returns-in-Err-remake-clause-remakes g t c =
    let n = c.in-Join.field-0 in
    let op = c.in-Join.op in
    let l = c.in-Join.left in
    let r = c.in-Join.right in
    let m : Meets c.args.node.now n op l.value r.value = meets c.args.node.now n op l r c.in-Join.is c.requires.can.over c.requires.can.valid in
    let R : KeptTree g.row.N.Denot = tree_of c.args.kept.now in
    let a : KeptTree g.row.N.Denot = tree_of c.in-Two.first.value in
    let b : KeptTree g.row.N.Denot = tree_of c.in-Two.second.value in
    let kept : R ≡ Two c.in-Two.above.entry a b = ap tree_of c.in-Two.is in
    let before : c.nodes-before.result ≡ count a = c.nodes-before.ensures ∙ ap (λ x. count (tree_of x)) c.deref.ensures in
    let turn : count a ≤ c.args.at - 1 = subst (λ k. k ≤ c.args.at - 1) before c.if-at-before.false in
    let lower : c.args.at - 1 - c.nodes-before.result ≡ c.args.at - 1 - count a = ap (λ k. c.args.at - 1 - k) before in
    λ full. right_below_full g.N.Keeps (the_laws g) (g.A.Automaton.shape c.args.automaton.now) c.args.node.now n op l.value r.value m R (tree_of c.args.new.now) c.in-Two.above.entry a b kept c.args.at c.if-at-eq0.false turn (c.args.at - 1 - c.nodes-before.result) lower (g.A.Automaton.lists c.args.automaton.now) c.requires.parts (g.A.Automaton.lists c.remake-else-at-before.new.automaton) c.args.limit c.args.rows.now c.remake-else-at-before.new.rows c.remake-else-at-before.new.made.items c.deref-else-at-before.result.now (tree_of c.deref-else-at-before-2.result.now) c.deref-else-at-before.ensures (ap tree_of c.deref-else-at-before-2.ensures) (c.in-Err-remake.ensures.remakes full)
