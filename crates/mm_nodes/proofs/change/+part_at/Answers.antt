use Rattle.std.proofs.Common.{rules, ◌≡◌, ◌<◌, ◌≤◌, ◌+◌, ◌-◌, refl, sym, ap, ◌∙◌, subst, arith}
use Rattle.mm_field.specs.declared.Field.{Field}
use Rattle.mm_tree.specs.NamedTree.{nodes}
use Rattle.mm_tree.specs.NamedTree.Tree.{Join}
use Rattle.mm_tree.specs.Nodes.{named, field_of, IsOver}
use Rattle.mm_tree.specs.Paths.{node_at}
use Rattle.mm_tree.specs.ValidTree.{IsValidTree}
use Rattle.mm_tree.proofs.StepLemmas.{node_root, node_left, node_right}
use Rattle.mm_tree.proofs.TreeLemmas.{over_field, valid_left, valid_right}
use Rattle.mm_nodes.specs.KeptTrees.{KeptTree, count, path_in}
use Rattle.mm_nodes.specs.KeptTrees.KeptTree.{Two}
use Rattle.mm_nodes.specs.KeptNodes.{tree_of, IsCounted}
use Rattle.mm_nodes.proofs.RemakeLemmas.{path_here, way_left, way_right}
use Rattle.mm_nodes.proofs.WalkLemmas.{Meets, meets, meets_leaf, left_less, right_less, child_over, child_valid, leaf_node}
use Rattle.mm_nodes.proofs.change.+part_at.Goals as goal

pub returns-in-Leaf-clause-tree : goal.returns-in-Leaf-clause-tree
returns-in-Leaf-clause-tree g t c = leaf_node c.args.node.now c.in-Leaf.field-0 (path_in c.args.at (tree_of c.args.kept.now)) (meets_leaf c.args.node.now c.in-Leaf.field-0 c.in-Leaf.is)

pub returns-then-at-eq0-clause-tree : goal.returns-then-at-eq0-clause-tree
returns-then-at-eq0-clause-tree g t c = sym (ap (node_at (named c.args.node.now)) (path_here c.args.at (tree_of c.args.kept.now) c.if-at-eq0.true) ∙ node_root (named c.args.node.now))

pub part_at-requires : goal.part_at-requires
part_at-requires g t c =
    let n = c.in-Join.field-0 in
    let op = c.in-Join.field-1 in
    let l = c.in-Join.left in
    let r = c.in-Join.right in
    let m : Meets c.args.node.now n op l.value r.value = meets c.args.node.now n op l r c.in-Join.is c.requires.over c.requires.valid in
    let R : KeptTree g.row.N.Denot = tree_of c.args.kept.now in
    let a : KeptTree g.row.N.Denot = tree_of c.in-Two.first.value in
    let b : KeptTree g.row.N.Denot = tree_of c.in-Two.second.value in
    let kept : R ≡ Two c.in-Two.field-0.entry a b = ap tree_of c.in-Two.is in
    let before : c.nodes-before.result ≡ count a = c.nodes-before.ensures ∙ ap (λ x. count (tree_of x)) c.deref.ensures in
    let turn : c.args.at - 1 < count a = subst (λ k. c.args.at - 1 < k) before c.if-at-before.true in
    let less : nodes (named c.deref-then-at-before.result.now) < nodes (named c.args.node.now) = left_less c.args.node.now n op l.value r.value m c.deref-then-at-before.result.now c.deref-then-at-before.ensures in
    let over : IsOver (field_of c.deref-then-at-before.result.now) c.deref-then-at-before.result.now = child_over c.deref-then-at-before.result.now l.value op.f c.deref-then-at-before.ensures m.left in
    let valid : IsValidTree (field_of c.deref-then-at-before.result.now) (named c.deref-then-at-before.result.now) =
    child_valid c.deref-then-at-before.result.now l.value op.f c.deref-then-at-before.ensures m.left (valid_left op.f n op.op (named l.value) (named r.value) m.valid) in
    let sums = subst (IsCounted g.N.Keeps.rows) c.in-Two.is c.requires.counted in
    let counted : IsCounted g.N.Keeps.rows c.deref-then-at-before-2.result.now = subst (IsCounted g.N.Keeps.rows) (sym c.deref-then-at-before-2.ensures) sums.2 in
    let here : count (tree_of c.deref-then-at-before-2.result.now) ≡ count a = ap (λ x. count (tree_of x)) c.deref-then-at-before-2.ensures in
    let whole : count R ≡ count a + count b + 1 = ap count kept in
    let inside = c.requires.within in
    let within : (c.args.at - 1) < count (tree_of c.deref-then-at-before-2.result.now) = omega (arith, here, turn, whole, inside, before) in
    let down = c.decreases in
    search rules

pub returns-then-at-before-clause-tree : goal.returns-then-at-before-clause-tree
returns-then-at-before-clause-tree g t c =
    let n = c.in-Join.field-0 in
    let op = c.in-Join.field-1 in
    let l = c.in-Join.left in
    let r = c.in-Join.right in
    let m : Meets c.args.node.now n op l.value r.value = meets c.args.node.now n op l r c.in-Join.is c.requires.over c.requires.valid in
    let R : KeptTree g.row.N.Denot = tree_of c.args.kept.now in
    let a : KeptTree g.row.N.Denot = tree_of c.in-Two.first.value in
    let b : KeptTree g.row.N.Denot = tree_of c.in-Two.second.value in
    let kept : R ≡ Two c.in-Two.field-0.entry a b = ap tree_of c.in-Two.is in
    let before : c.nodes-before.result ≡ count a = c.nodes-before.ensures ∙ ap (λ x. count (tree_of x)) c.deref.ensures in
    let turn : c.args.at - 1 < count a = subst (λ k. c.args.at - 1 < k) before c.if-at-before.true in
    let way = way_left c.args.at R c.in-Two.field-0.entry a b kept c.if-at-eq0.false turn (c.args.at - 1) refl in
    c.part_at.ensures.tree ∙ ap (λ x. node_at (named x) (path_in (c.args.at - 1) (tree_of c.deref-then-at-before-2.result.now))) c.deref-then-at-before.ensures ∙ ap (λ x. node_at (named l.value) (path_in (c.args.at - 1) (tree_of x))) c.deref-then-at-before-2.ensures
    ∙ sym (node_left n op.op (named l.value) (named r.value) (path_in (c.args.at - 1) a)) ∙ sym (ap (node_at (Join n op.op (named l.value) (named r.value))) way) ∙ sym (ap (λ T. node_at T (path_in c.args.at R)) m.tree)

pub returns-then-at-before-clause-over : goal.returns-then-at-before-clause-over
returns-then-at-before-clause-over g t c =
    let n = c.in-Join.field-0 in
    let op = c.in-Join.field-1 in
    let l = c.in-Join.left in
    let r = c.in-Join.right in
    let m : Meets c.args.node.now n op l.value r.value = meets c.args.node.now n op l r c.in-Join.is c.requires.over c.requires.valid in
    let R : KeptTree g.row.N.Denot = tree_of c.args.kept.now in
    let a : KeptTree g.row.N.Denot = tree_of c.in-Two.first.value in
    let b : KeptTree g.row.N.Denot = tree_of c.in-Two.second.value in
    let kept : R ≡ Two c.in-Two.field-0.entry a b = ap tree_of c.in-Two.is in
    let before : c.nodes-before.result ≡ count a = c.nodes-before.ensures ∙ ap (λ x. count (tree_of x)) c.deref.ensures in
    let turn : c.args.at - 1 < count a = subst (λ k. c.args.at - 1 < k) before c.if-at-before.true in
    subst (λ (f : Field). IsOver f c.part_at.result.now) (ap field_of c.deref-then-at-before.ensures ∙ over_field op.f l.value m.left ∙ sym m.field) c.part_at.ensures.over

pub part_at-requires-else-at-before : goal.part_at-requires-else-at-before
part_at-requires-else-at-before g t c =
    let n = c.in-Join.field-0 in
    let op = c.in-Join.field-1 in
    let l = c.in-Join.left in
    let r = c.in-Join.right in
    let m : Meets c.args.node.now n op l.value r.value = meets c.args.node.now n op l r c.in-Join.is c.requires.over c.requires.valid in
    let R : KeptTree g.row.N.Denot = tree_of c.args.kept.now in
    let a : KeptTree g.row.N.Denot = tree_of c.in-Two.first.value in
    let b : KeptTree g.row.N.Denot = tree_of c.in-Two.second.value in
    let kept : R ≡ Two c.in-Two.field-0.entry a b = ap tree_of c.in-Two.is in
    let before : c.nodes-before.result ≡ count a = c.nodes-before.ensures ∙ ap (λ x. count (tree_of x)) c.deref.ensures in
    let turn : count a ≤ c.args.at - 1 = subst (λ k. k ≤ c.args.at - 1) before c.if-at-before.false in
    let lower : c.args.at - 1 - c.nodes-before.result ≡ c.args.at - 1 - count a = ap (λ k. c.args.at - 1 - k) before in
    let less : nodes (named c.deref-else-at-before.result.now) < nodes (named c.args.node.now) = right_less c.args.node.now n op l.value r.value m c.deref-else-at-before.result.now c.deref-else-at-before.ensures in
    let over : IsOver (field_of c.deref-else-at-before.result.now) c.deref-else-at-before.result.now = child_over c.deref-else-at-before.result.now r.value op.f c.deref-else-at-before.ensures m.right in
    let valid : IsValidTree (field_of c.deref-else-at-before.result.now) (named c.deref-else-at-before.result.now) =
    child_valid c.deref-else-at-before.result.now r.value op.f c.deref-else-at-before.ensures m.right (valid_right op.f n op.op (named l.value) (named r.value) m.valid) in
    let sums = subst (IsCounted g.N.Keeps.rows) c.in-Two.is c.requires.counted in
    let counted : IsCounted g.N.Keeps.rows c.deref-else-at-before-2.result.now = subst (IsCounted g.N.Keeps.rows) (sym c.deref-else-at-before-2.ensures) sums.3 in
    let here : count (tree_of c.deref-else-at-before-2.result.now) ≡ count b = ap (λ x. count (tree_of x)) c.deref-else-at-before-2.ensures in
    let whole : count R ≡ count a + count b + 1 = ap count kept in
    let inside = c.requires.within in
    let within : (c.args.at - 1 - c.nodes-before.result) < count (tree_of c.deref-else-at-before-2.result.now) = omega (arith, here, turn, whole, inside, before) in
    let down = c.decreases in
    search rules

pub returns-else-at-before-clause-tree : goal.returns-else-at-before-clause-tree
returns-else-at-before-clause-tree g t c =
    let n = c.in-Join.field-0 in
    let op = c.in-Join.field-1 in
    let l = c.in-Join.left in
    let r = c.in-Join.right in
    let m : Meets c.args.node.now n op l.value r.value = meets c.args.node.now n op l r c.in-Join.is c.requires.over c.requires.valid in
    let R : KeptTree g.row.N.Denot = tree_of c.args.kept.now in
    let a : KeptTree g.row.N.Denot = tree_of c.in-Two.first.value in
    let b : KeptTree g.row.N.Denot = tree_of c.in-Two.second.value in
    let kept : R ≡ Two c.in-Two.field-0.entry a b = ap tree_of c.in-Two.is in
    let before : c.nodes-before.result ≡ count a = c.nodes-before.ensures ∙ ap (λ x. count (tree_of x)) c.deref.ensures in
    let turn : count a ≤ c.args.at - 1 = subst (λ k. k ≤ c.args.at - 1) before c.if-at-before.false in
    let lower : c.args.at - 1 - c.nodes-before.result ≡ c.args.at - 1 - count a = ap (λ k. c.args.at - 1 - k) before in
    let way = way_right c.args.at R c.in-Two.field-0.entry a b kept c.if-at-eq0.false turn (c.args.at - 1 - c.nodes-before.result) lower in
    c.part_at-else-at-before.ensures.tree ∙ ap (λ x. node_at (named x) (path_in (c.args.at - 1 - c.nodes-before.result) (tree_of c.deref-else-at-before-2.result.now))) c.deref-else-at-before.ensures ∙ ap (λ x. node_at (named r.value) (path_in (c.args.at - 1 - c.nodes-before.result) (tree_of x))) c.deref-else-at-before-2.ensures
    ∙ sym (node_right n op.op (named l.value) (named r.value) (path_in (c.args.at - 1 - c.nodes-before.result) b)) ∙ sym (ap (node_at (Join n op.op (named l.value) (named r.value))) way) ∙ sym (ap (λ T. node_at T (path_in c.args.at R)) m.tree)

pub returns-else-at-before-clause-over : goal.returns-else-at-before-clause-over
returns-else-at-before-clause-over g t c =
    let n = c.in-Join.field-0 in
    let op = c.in-Join.field-1 in
    let l = c.in-Join.left in
    let r = c.in-Join.right in
    let m : Meets c.args.node.now n op l.value r.value = meets c.args.node.now n op l r c.in-Join.is c.requires.over c.requires.valid in
    let R : KeptTree g.row.N.Denot = tree_of c.args.kept.now in
    let a : KeptTree g.row.N.Denot = tree_of c.in-Two.first.value in
    let b : KeptTree g.row.N.Denot = tree_of c.in-Two.second.value in
    let kept : R ≡ Two c.in-Two.field-0.entry a b = ap tree_of c.in-Two.is in
    let before : c.nodes-before.result ≡ count a = c.nodes-before.ensures ∙ ap (λ x. count (tree_of x)) c.deref.ensures in
    let turn : count a ≤ c.args.at - 1 = subst (λ k. k ≤ c.args.at - 1) before c.if-at-before.false in
    let lower : c.args.at - 1 - c.nodes-before.result ≡ c.args.at - 1 - count a = ap (λ k. c.args.at - 1 - k) before in
    subst (λ (f : Field). IsOver f c.part_at-else-at-before.result.now) (ap field_of c.deref-else-at-before.ensures ∙ over_field op.f r.value m.right ∙ sym m.field) c.part_at-else-at-before.ensures.over
