use Rattle.std.proofs.Common.{◌≡◌, ◌<◌, ◌≤◌, ◌+◌, length, take, drop, sym, ap, subst, ◌∙◌, arith}
use Rattle.mm_field.specs.Vectors.{AreVectors}
use Rattle.mm_logic.specs.Tree as shapes
use Rattle.mm_matrix.specs.MatrixValue.{MatrixValue}
use Rattle.mm_present.specs.Dependencies.{ArePairs, Finds, Walks, joined_pairs, least_place, tails, with_boundary}
use Rattle.mm_present.proofs.NodeLemmas.{always_ok, at_join, node_of_leaf, nodes_at_join}
use Rattle.mm_present.proofs.WalkLemmas.{ok_both, child_pairs, join_walk}
use Rattle.mm_tree.specs.NamedTree.{shape, nodes}
use Rattle.mm_tree.specs.Nodes.{named, IsOver}
use Rattle.mm_present.proofs.dependencies.+pairs_of.Goals as goal

pub leaf_pairs-requires-clause-valid : goal.leaf_pairs-requires-clause-valid
leaf_pairs-requires-clause-valid t c =
    subst (λ x. shapes.IsValid c.args.f (shape x)) (node_of_leaf c.args.node.now c.in-Leaf.leaf c.in-Leaf.is) c.requires.valid

pub leaf_pairs-requires-clause-room : goal.leaf_pairs-requires-clause-room
leaf_pairs-requires-clause-room t c =
    subst (λ x. c.args.next.now + shapes.size (shape x) ≤ length c.args.columns.now.rows) (node_of_leaf c.args.node.now c.in-Leaf.leaf c.in-Leaf.is) c.requires.room

pub pairs_of-requires : goal.pairs_of-requires
pairs_of-requires t c =
    let f = c.args.f in
    let j = at_join f c.args.node.now c.in-Join.field-0 c.in-Join.op c.in-Join.left c.in-Join.right c.in-Join.is c.requires.over c.requires.valid in
    let L = shape (named c.in-Join.left.value) in
    let R = shape (named c.in-Join.right.value) in
    let room = c.requires.room in
    let n : shapes.size (shape (named c.args.node.now)) ≡ shapes.size L + shapes.size R = ap shapes.size j.shape_is in
    let m = nodes_at_join c.args.node.now c.in-Join.field-0 c.in-Join.op c.in-Join.left c.in-Join.right c.in-Join.is in
    let down = c.decreases in
    let e = sym c.deref.ensures in (
      subst (λ x. nodes (named x) < t) e (omega arith),
      (
        subst (λ x. IsOver f x) e j.over_left,
        (
          subst (λ x. shapes.IsValid f (shape (named x))) e j.valid.3,
          (c.requires.field, subst (λ x. c.args.next.now + shapes.size (shape (named x)) ≤ length c.args.columns.now.rows) e (omega arith)),
        ),
      ),
    )

pub pairs_of-requires-in-Join : goal.pairs_of-requires-in-Join
pairs_of-requires-in-Join t c =
    let f = c.args.f in
    let j = at_join f c.args.node.now c.in-Join.field-0 c.in-Join.op c.in-Join.left c.in-Join.right c.in-Join.is c.requires.over c.requires.valid in
    let L = shape (named c.in-Join.left.value) in
    let R = shape (named c.in-Join.right.value) in
    let room = c.requires.room in
    let n : shapes.size (shape (named c.args.node.now)) ≡ shapes.size L + shapes.size R = ap shapes.size j.shape_is in
    let m = nodes_at_join c.args.node.now c.in-Join.field-0 c.in-Join.op c.in-Join.left c.in-Join.right c.in-Join.is in
    let middle : c.pairs_of.new.next ≡ c.args.next.now + shapes.size L =
    c.in_ok-first-in-Join.ensures.0 ∙ ap (λ x. c.args.next.now + shapes.size (shape (named x))) c.deref.ensures in
    let down = c.decreases in
    let e = sym c.deref-in-Join.ensures in (
      subst (λ x. nodes (named x) < t) e (omega arith),
      (
        subst (λ x. IsOver f x) e j.over_right,
        (
          subst (λ x. shapes.IsValid f (shape (named x))) e j.valid.4,
          (c.requires.field, subst (λ x. c.pairs_of.new.next + shapes.size (shape (named x)) ≤ length c.args.columns.now.rows) e (omega arith)),
        ),
      ),
    )

pub join_pairs-requires-clause-left : goal.join_pairs-requires-clause-left
join_pairs-requires-clause-left t c =
    let f = c.args.f in
    let j = at_join f c.args.node.now c.in-Join.field-0 c.in-Join.op c.in-Join.left c.in-Join.right c.in-Join.is c.requires.over c.requires.valid in
    child_pairs f c.in-Join.op.f (shape (named c.deref.result.now)) (shape (named c.in-Join.left.value)) c.in-Join.op.op.t1 c.cols.result c.args.columns.now.cols
    c.in_ok-first-in-Join.first j.field (ap (λ x. shape (named x)) c.deref.ensures) j.valid.1 c.cols.ensures c.in_ok-first-in-Join.ensures.1.0

pub join_pairs-requires-clause-right : goal.join_pairs-requires-clause-right
join_pairs-requires-clause-right t c =
    let f = c.args.f in
    let j = at_join f c.args.node.now c.in-Join.field-0 c.in-Join.op c.in-Join.left c.in-Join.right c.in-Join.is c.requires.over c.requires.valid in
    child_pairs f c.in-Join.op.f (shape (named c.deref-in-Join.result.now)) (shape (named c.in-Join.right.value)) c.in-Join.op.op.t2 c.cols.result c.args.columns.now.cols
    c.in_ok-second-in-Join.second j.field (ap (λ x. shape (named x)) c.deref-in-Join.ensures) j.valid.2 c.cols.ensures c.in_ok-second-in-Join.ensures.1.0

pub returns-in-Leaf : goal.returns-in-Leaf
returns-in-Leaf t c =
    subst (λ x. Walks c.args.f (shape x) c.args.columns.now c.args.next.now c.leaf_pairs.new.next c.args.least.now c.leaf_pairs.new.least c.leaf_pairs.result)
    (sym (node_of_leaf c.args.node.now c.in-Leaf.leaf c.in-Leaf.is)) c.leaf_pairs.ensures

pub returns-in_ok-second-in-Join : goal.returns-in_ok-second-in-Join
returns-in_ok-second-in-Join t c =
    let f = c.args.f in
    let j = at_join f c.args.node.now c.in-Join.field-0 c.in-Join.op c.in-Join.left c.in-Join.right c.in-Join.is c.requires.over c.requires.valid in
    let T = shape (named c.args.node.now) in
    let L = shape (named c.in-Join.left.value) in
    let R = shape (named c.in-Join.right.value) in
    let room = c.requires.room in
    let n : shapes.size T ≡ shapes.size L + shapes.size R = ap shapes.size j.shape_is in
    let op = c.in-Join.op in
    let columns = c.args.columns.now in
    let next = c.args.next.now in
    let first = c.in_ok-first-in-Join.first in
    let second = c.in_ok-second-in-Join.second in
    let before = c.args.least.now in
    let between = c.pairs_of.new.least in
    let after = c.pairs_of-in-Join.new.least in
    let last = c.join_pairs.new.least in
    let middle = c.pairs_of.new.next in
    let middle_is : middle ≡ next + shapes.size L = c.in_ok-first-in-Join.ensures.0 ∙ ap (λ x. next + shapes.size (shape (named x))) c.deref.ensures in
    let end_is : c.pairs_of-in-Join.new.next ≡ middle + shapes.size R =
    c.in_ok-second-in-Join.ensures.0 ∙ ap (λ x. middle + shapes.size (shape (named x))) c.deref-in-Join.ensures in
    let left = subst (λ x. ArePairs f (shapes.boundary (shape (named x))) columns.cols first
    × Finds f columns.cols (shape (named x)) (take (shapes.size (shape (named x))) (drop next columns.rows)) first.rows before between)
    c.deref.ensures c.in_ok-first-in-Join.ensures.1 in
    let right = subst (λ x. ArePairs f (shapes.boundary (shape (named x))) columns.cols second
    × Finds f columns.cols (shape (named x)) (take (shapes.size (shape (named x))) (drop middle columns.rows)) second.rows between after)
    c.deref-in-Join.ensures c.in_ok-second-in-Join.ensures.1 in
    let hc = subst (λ h. AreVectors h columns.cols columns.rows) c.requires.field c.rows.ensures.each in
    let ecols = c.cols.ensures in (
      always_ok (c.pairs_of-in-Join.new.next ≡ next + shapes.size T) c.join_pairs.result (omega arith),
      ok_both
          {P = λ (m : MatrixValue). m ≡ record { f = op.f; cols = op.op.t3 + c.cols.result; rows = with_boundary op.op.t3 (joined_pairs op c.cols.result first.rows second.rows) }}
          {R = λ (m : MatrixValue). ArePairs f (shapes.boundary T) columns.cols m × Finds f columns.cols T (take (shapes.size T) (drop next columns.rows)) m.rows before last}
          {Q = last ≡ least_place after (tails op.op.t3 (joined_pairs op c.cols.result first.rows second.rows))}
          c.join_pairs.result c.join_pairs.ensures.pairs c.join_pairs.ensures.least
          (λ m em el. join_walk f op T L R columns first second m next middle before between after last j.field j.shape_is j.valid hc (omega arith) middle_is
          left.0 right.0 left.1 right.1
          (em ∙ ap (λ g. record { f = op.f; cols = op.op.t3 + g; rows = with_boundary op.op.t3 (joined_pairs op g first.rows second.rows) }) ecols)
          (el ∙ ap (λ g. least_place after (tails op.op.t3 (joined_pairs op g first.rows second.rows))) ecols)),
    )
