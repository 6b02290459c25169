use Rattle.std.proofs.Common.{◌<◌, Some, None, sym, subst, ◌∙◌, arith}
use Rattle.mm_logic.specs.Tree as shapes
use Rattle.mm_present.specs.WholeSpaces.{IsWholeSpace}
use Rattle.mm_present.proofs.NodeLemmas.{at_join, node_of_leaf, nodes_at_join}
use Rattle.mm_present.proofs.WholeSpaceLemmas.{left_dead, right_dead, join_space}
use Rattle.mm_tree.specs.NamedTree.{shape, nodes}
use Rattle.mm_tree.specs.Nodes.{named, IsOver}
use Rattle.mm_present.proofs.independence.+space_of.Goals as goal

pub space_of_leaf-requires : goal.space_of_leaf-requires
space_of_leaf-requires t c =
    subst (λ x. shapes.IsValid c.args.f (shape x)) (node_of_leaf c.args.node.now c.in-Leaf.leaf c.in-Leaf.is) c.requires.valid

pub space_of-requires : goal.space_of-requires
space_of-requires t c =
    let f = c.args.f in
    let j = at_join f c.args.node.now c.in-Join.field-0 c.in-Join.op c.in-Join.left c.in-Join.right c.in-Join.is c.requires.over c.requires.valid in
    let m = nodes_at_join c.args.node.now c.in-Join.field-0 c.in-Join.op c.in-Join.left c.in-Join.right c.in-Join.is in
    let down = c.decreases in
    let e = sym c.deref.ensures in
    (subst (λ x. nodes (named x) < t) e (omega arith), (subst (λ x. IsOver f x) e j.over_left, subst (λ x. shapes.IsValid f (shape (named x))) e j.valid.3))

pub returns-in_default : goal.returns-in_default
returns-in_default t c =
    let f = c.args.f in
    let j = at_join f c.args.node.now c.in-Join.field-0 c.in-Join.op c.in-Join.left c.in-Join.right c.in-Join.is c.requires.over c.requires.valid in
    left_dead f c.in-Join.op (shape (named c.args.node.now)) (shape (named c.in-Join.left.value)) (shape (named c.in-Join.right.value)) j.shape_is j.valid
    (subst (λ x. IsWholeSpace f (shape (named x)) None) c.deref.ensures c.in_default.ensures)

pub space_of-requires-in-Join : goal.space_of-requires-in-Join
space_of-requires-in-Join t c =
    let f = c.args.f in
    let j = at_join f c.args.node.now c.in-Join.field-0 c.in-Join.op c.in-Join.left c.in-Join.right c.in-Join.is c.requires.over c.requires.valid in
    let m = nodes_at_join c.args.node.now c.in-Join.field-0 c.in-Join.op c.in-Join.left c.in-Join.right c.in-Join.is in
    let down = c.decreases in
    let e = sym c.deref-in-Join.ensures in
    (subst (λ x. nodes (named x) < t) e (omega arith), (subst (λ x. IsOver f x) e j.over_right, subst (λ x. shapes.IsValid f (shape (named x))) e j.valid.4))

pub returns-in_default-space_of : goal.returns-in_default-space_of
returns-in_default-space_of t c =
    let f = c.args.f in
    let j = at_join f c.args.node.now c.in-Join.field-0 c.in-Join.op c.in-Join.left c.in-Join.right c.in-Join.is c.requires.over c.requires.valid in
    right_dead f c.in-Join.op (shape (named c.args.node.now)) (shape (named c.in-Join.left.value)) (shape (named c.in-Join.right.value)) j.shape_is j.valid
    (subst (λ x. IsWholeSpace f (shape (named x)) None) c.deref-in-Join.ensures c.in_default-space_of.ensures)

pub join-requires-clause-left_field : goal.join-requires-clause-left_field
join-requires-clause-left_field t c =
    let f = c.args.f in
    let j = at_join f c.args.node.now c.in-Join.field-0 c.in-Join.op c.in-Join.left c.in-Join.right c.in-Join.is c.requires.over c.requires.valid in
    let left = subst (λ x. IsWholeSpace f (shape (named x)) (Some c.in-Some.first)) c.deref.ensures c.in-Some.ensures in
    left.over.0 ∙ sym j.field

pub join-requires-clause-right_field : goal.join-requires-clause-right_field
join-requires-clause-right_field t c =
    let f = c.args.f in
    let j = at_join f c.args.node.now c.in-Join.field-0 c.in-Join.op c.in-Join.left c.in-Join.right c.in-Join.is c.requires.over c.requires.valid in
    let right = subst (λ x. IsWholeSpace f (shape (named x)) (Some c.in-Some-space_of.second)) c.deref-in-Join.ensures c.in-Some-space_of.ensures in
    right.over.0 ∙ sym j.field

pub join-requires-clause-left_boundary : goal.join-requires-clause-left_boundary
join-requires-clause-left_boundary t c =
    let f = c.args.f in
    let j = at_join f c.args.node.now c.in-Join.field-0 c.in-Join.op c.in-Join.left c.in-Join.right c.in-Join.is c.requires.over c.requires.valid in
    let left = subst (λ x. IsWholeSpace f (shape (named x)) (Some c.in-Some.first)) c.deref.ensures c.in-Some.ensures in
    left.over.1 ∙ j.valid.1

pub join-requires-clause-right_boundary : goal.join-requires-clause-right_boundary
join-requires-clause-right_boundary t c =
    let f = c.args.f in
    let j = at_join f c.args.node.now c.in-Join.field-0 c.in-Join.op c.in-Join.left c.in-Join.right c.in-Join.is c.requires.over c.requires.valid in
    let right = subst (λ x. IsWholeSpace f (shape (named x)) (Some c.in-Some-space_of.second)) c.deref-in-Join.ensures c.in-Some-space_of.ensures in
    right.over.1 ∙ j.valid.2

pub returns-in-Leaf : goal.returns-in-Leaf
returns-in-Leaf t c =
    subst (λ x. IsWholeSpace c.args.f (shape x) c.space_of_leaf.result) (sym (node_of_leaf c.args.node.now c.in-Leaf.leaf c.in-Leaf.is)) c.space_of_leaf.ensures

pub returns-in-Some-space_of : goal.returns-in-Some-space_of
returns-in-Some-space_of t c =
    let f = c.args.f in
    let j = at_join f c.args.node.now c.in-Join.field-0 c.in-Join.op c.in-Join.left c.in-Join.right c.in-Join.is c.requires.over c.requires.valid in
    let left = subst (λ x. IsWholeSpace f (shape (named x)) (Some c.in-Some.first)) c.deref.ensures c.in-Some.ensures in
    let right = subst (λ x. IsWholeSpace f (shape (named x)) (Some c.in-Some-space_of.second)) c.deref-in-Join.ensures c.in-Some-space_of.ensures in
    join_space f c.in-Join.op (shape (named c.args.node.now)) (shape (named c.in-Join.left.value)) (shape (named c.in-Join.right.value)) c.in-Some.first c.in-Some-space_of.second c.join.result j.field j.shape_is j.valid left right c.join.ensures
