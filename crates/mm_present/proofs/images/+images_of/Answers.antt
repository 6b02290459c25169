use Rattle.std.proofs.Common.{◌&&◌, ◌≡◌, ◌<◌, ◌≤◌, ◌+◌, length, take, drop, sym, ap, subst, ◌∙◌, arith}
use Rattle.mm_field.specs.Vectors.{AreVectors}
use Rattle.mm_logic.specs.Tree as shapes
use Rattle.mm_matrix.specs.MatrixValue.{MatrixValue}
use Rattle.std.proofs.lemmas.Result.{IfOk-weaker}
use Rattle.mm_logic.specs.PresentMatrix.{boundary_rows}
use Rattle.mm_present.specs.Images.{ImagesOf, are_zero, images, joined_images}
use Rattle.mm_present.specs.Joining.{internal_rows}
use Rattle.mm_present.proofs.ImageWalkLemmas.{child_images, join_images, no_internal}
use Rattle.mm_present.proofs.NodeLemmas.{always_ok, at_join, leaf_internal, node_of_leaf, nodes_at_join}
use Rattle.mm_present.proofs.WalkLemmas.{ok_both}
use Rattle.mm_tree.specs.NamedTree.{shape, nodes}
use Rattle.mm_tree.specs.Nodes.{named, named_leaf, IsOver}
use Rattle.mm_present.proofs.images.+images_of.Goals as goal

pub leaf_images-requires-clause-valid : goal.leaf_images-requires-clause-valid
leaf_images-requires-clause-valid t c =
    subst (λ x. shapes.IsValid c.args.f (shape x)) (node_of_leaf c.args.node.now c.in-Leaf.leaf c.in-Leaf.is) c.requires.valid

pub leaf_images-requires-clause-room : goal.leaf_images-requires-clause-room
leaf_images-requires-clause-room t c =
    subst (λ x. c.args.next.now + shapes.size (shape x) ≤ length c.args.columns.now.rows) (node_of_leaf c.args.node.now c.in-Leaf.leaf c.in-Leaf.is) c.requires.room

pub images_of-requires : goal.images_of-requires
images_of-requires t c =
    let f = c.args.f in
    let j = at_join f c.args.node.now c.in-Join.field-0 c.in-Join.op c.in-Join.left c.in-Join.right c.in-Join.is c.requires.over c.requires.valid in
    let L = shape (named c.in-Join.left.value) in
    let R = shape (named c.in-Join.right.value) in
    let room = c.requires.room in
    let n : shapes.size (shape (named c.args.node.now)) ≡ shapes.size L + shapes.size R = ap shapes.size j.shape_is in
    let m = nodes_at_join c.args.node.now c.in-Join.field-0 c.in-Join.op c.in-Join.left c.in-Join.right c.in-Join.is in
    let down = c.decreases in
    let e = sym c.deref.ensures in (
      subst (λ x. nodes (named x) < t) e (omega arith),
      (
        subst (λ x. IsOver f x) e j.over_left,
        (
          subst (λ x. shapes.IsValid f (shape (named x))) e j.valid.3,
          (c.requires.field, subst (λ x. c.args.next.now + shapes.size (shape (named x)) ≤ length c.args.columns.now.rows) e (omega arith)),
        ),
      ),
    )

pub images_of-requires-in-Join : goal.images_of-requires-in-Join
images_of-requires-in-Join t c =
    let f = c.args.f in
    let j = at_join f c.args.node.now c.in-Join.field-0 c.in-Join.op c.in-Join.left c.in-Join.right c.in-Join.is c.requires.over c.requires.valid in
    let L = shape (named c.in-Join.left.value) in
    let R = shape (named c.in-Join.right.value) in
    let room = c.requires.room in
    let n : shapes.size (shape (named c.args.node.now)) ≡ shapes.size L + shapes.size R = ap shapes.size j.shape_is in
    let m = nodes_at_join c.args.node.now c.in-Join.field-0 c.in-Join.op c.in-Join.left c.in-Join.right c.in-Join.is in
    let middle : c.images_of.new.next ≡ c.args.next.now + shapes.size L =
    c.in_ok-first-in-Join.ensures.0 ∙ ap (λ x. c.args.next.now + shapes.size (shape (named x))) c.deref.ensures in
    let down = c.decreases in
    let e = sym c.deref-in-Join.ensures in (
      subst (λ x. nodes (named x) < t) e (omega arith),
      (
        subst (λ x. IsOver f x) e j.over_right,
        (
          subst (λ x. shapes.IsValid f (shape (named x))) e j.valid.4,
          (c.requires.field, subst (λ x. c.images_of.new.next + shapes.size (shape (named x)) ≤ length c.args.columns.now.rows) e (omega arith)),
        ),
      ),
    )

pub boundary_images-requires-clause-left_field : goal.boundary_images-requires-clause-left_field
boundary_images-requires-clause-left_field t c =
    let f = c.args.f in
    let j = at_join f c.args.node.now c.in-Join.field-0 c.in-Join.op c.in-Join.left c.in-Join.right c.in-Join.is c.requires.over c.requires.valid in
    ap (λ (m : MatrixValue). m.f) c.in_ok-first-in-Join.ensures.1.0 ∙ sym j.field

pub boundary_images-requires-clause-right_field : goal.boundary_images-requires-clause-right_field
boundary_images-requires-clause-right_field t c =
    let f = c.args.f in
    let j = at_join f c.args.node.now c.in-Join.field-0 c.in-Join.op c.in-Join.left c.in-Join.right c.in-Join.is c.requires.over c.requires.valid in
    ap (λ (m : MatrixValue). m.f) c.in_ok-second-in-Join.ensures.1.0 ∙ sym j.field

pub boundary_images-requires-clause-cols : goal.boundary_images-requires-clause-cols
boundary_images-requires-clause-cols t c =
    ap (λ (m : MatrixValue). m.cols) c.in_ok-second-in-Join.ensures.1.0 ∙ sym (ap (λ (m : MatrixValue). m.cols) c.in_ok-first-in-Join.ensures.1.0)

pub boundary_images-requires-clause-left : goal.boundary_images-requires-clause-left
boundary_images-requires-clause-left t c =
    let f = c.args.f in
    let j = at_join f c.args.node.now c.in-Join.field-0 c.in-Join.op c.in-Join.left c.in-Join.right c.in-Join.is c.requires.over c.requires.valid in
    let S = shape (named c.deref.result.now) in
    let columns = c.args.columns.now in
    child_images f S (shape (named c.in-Join.left.value)) c.in-Join.op.op.t1 (take (shapes.size S) (drop c.args.next.now columns.rows)) columns.cols
    c.in_ok-first-in-Join.first (ap (λ x. shape (named x)) c.deref.ensures) j.valid.1 c.in_ok-first-in-Join.ensures.1.0

pub boundary_images-requires-clause-right : goal.boundary_images-requires-clause-right
boundary_images-requires-clause-right t c =
    let f = c.args.f in
    let j = at_join f c.args.node.now c.in-Join.field-0 c.in-Join.op c.in-Join.left c.in-Join.right c.in-Join.is c.requires.over c.requires.valid in
    let S = shape (named c.deref-in-Join.result.now) in
    let columns = c.args.columns.now in
    child_images f S (shape (named c.in-Join.right.value)) c.in-Join.op.op.t2 (take (shapes.size S) (drop c.images_of.new.next columns.rows)) columns.cols
    c.in_ok-second-in-Join.second (ap (λ x. shape (named x)) c.deref-in-Join.ensures) j.valid.2 c.in_ok-second-in-Join.ensures.1.0

pub returns-in-Leaf : goal.returns-in-Leaf
returns-in-Leaf t c =
    let f = c.args.f in
    let leaf = c.in-Leaf.leaf in
    let columns = c.args.columns.now in
    let next = c.args.next.now in
    let zero = c.args.zero.now in
    let r = c.leaf_images.result in
    let T = shape (named_leaf leaf) in
    let cs = take (shapes.size T) (drop next columns.rows) in
    subst (λ x. ImagesOf f (shape x) columns next c.leaf_images.new.next zero zero r) (sym (node_of_leaf c.args.node.now leaf c.in-Leaf.is)) (
      c.leaf_images.ensures.next,
      IfOk-weaker r (λ (m : MatrixValue). m ≡ record { f = f; cols = columns.cols; rows = images f columns.cols cs (boundary_rows f T) })
          (λ (m : MatrixValue). (m ≡ record { f = f; cols = columns.cols; rows = images f columns.cols cs (boundary_rows f T) })
          × (zero ≡ (zero && are_zero (images f columns.cols cs (internal_rows f T)))))
          (λ m e. (e, no_internal f T columns.cols cs zero (leaf_internal leaf))) c.leaf_images.ensures.images,
    )

pub returns-in_ok-second-in-Join : goal.returns-in_ok-second-in-Join
returns-in_ok-second-in-Join t c =
    let f = c.args.f in
    let j = at_join f c.args.node.now c.in-Join.field-0 c.in-Join.op c.in-Join.left c.in-Join.right c.in-Join.is c.requires.over c.requires.valid in
    let T = shape (named c.args.node.now) in
    let L = shape (named c.in-Join.left.value) in
    let R = shape (named c.in-Join.right.value) in
    let room = c.requires.room in
    let n : shapes.size T ≡ shapes.size L + shapes.size R = ap shapes.size j.shape_is in
    let op = c.in-Join.op in
    let columns = c.args.columns.now in
    let d = columns.cols in
    let next = c.args.next.now in
    let first = c.in_ok-first-in-Join.first in
    let second = c.in_ok-second-in-Join.second in
    let before = c.args.zero.now in
    let between = c.images_of.new.zero in
    let after = c.images_of-in-Join.new.zero in
    let last = c.boundary_images.new.zero in
    let middle = c.images_of.new.next in
    let middle_is : middle ≡ next + shapes.size L = c.in_ok-first-in-Join.ensures.0 ∙ ap (λ x. next + shapes.size (shape (named x))) c.deref.ensures in
    let end_is : c.images_of-in-Join.new.next ≡ middle + shapes.size R =
    c.in_ok-second-in-Join.ensures.0 ∙ ap (λ x. middle + shapes.size (shape (named x))) c.deref-in-Join.ensures in
    let left = subst (λ x. (first ≡ record { f = f; cols = d; rows = images f d (take (shapes.size (shape (named x))) (drop next columns.rows)) (boundary_rows f (shape (named x))) })
    × (between ≡ (before && are_zero (images f d (take (shapes.size (shape (named x))) (drop next columns.rows)) (internal_rows f (shape (named x)))))))
    c.deref.ensures c.in_ok-first-in-Join.ensures.1 in
    let right = subst (λ x. (second ≡ record { f = f; cols = d; rows = images f d (take (shapes.size (shape (named x))) (drop middle columns.rows)) (boundary_rows f (shape (named x))) })
    × (after ≡ (between && are_zero (images f d (take (shapes.size (shape (named x))) (drop middle columns.rows)) (internal_rows f (shape (named x)))))))
    c.deref-in-Join.ensures c.in_ok-second-in-Join.ensures.1 in
    let hc = subst (λ h. AreVectors h d columns.rows) c.requires.field c.rows.ensures.each in
    let made = joined_images op first.cols first.rows second.rows in (
      always_ok (c.images_of-in-Join.new.next ≡ next + shapes.size T) c.boundary_images.result (omega arith),
      ok_both
          {P = λ (m : MatrixValue). m ≡ record { f = op.f; cols = first.cols; rows = take op.op.t3 made }}
          {R = λ (m : MatrixValue). (m ≡ record { f = f; cols = d; rows = images f d (take (shapes.size T) (drop next columns.rows)) (boundary_rows f T) })
          × (last ≡ (before && are_zero (images f d (take (shapes.size T) (drop next columns.rows)) (internal_rows f T))))}
          {Q = last ≡ (after && are_zero (drop op.op.t3 made))}
          c.boundary_images.result c.boundary_images.ensures.images c.boundary_images.ensures.zero
          (λ m em el. join_images f op T L R columns first second m next middle before between after last j.field j.shape_is j.valid hc (omega arith) middle_is
          left.0 right.0 left.1 right.1 em el),
    )
