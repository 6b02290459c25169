use Rattle.std.proofs.Common.{◌≡◌, ◌<◌, ◌≤◌, ◌+◌, ◌-◌, ℕ, map, reverse, ◌++◌, sym, ap, ap₂, subst, ◌∙◌, arith}
use Rattle.std.proofs.lemmas.Result.{IfOk-weaker, on_ok_weaker}
use Rattle.std.specs.List.{range_with_len}
use Rattle.mm_logic.specs.Tree as shapes
use Rattle.mm_matrix.specs.MatrixValue.{MatrixValue}
use Rattle.mm_tree.specs.NamedTree.{shape, nodes}
use Rattle.mm_tree.specs.Nodes.{named, named_leaf, IsOver}
use Rattle.mm_present.specs.Joining.{placed_rows, joined_row, widened, boundary_matrix}
use Rattle.mm_logic.specs.PresentMatrix.{internal}
use Rattle.mm_present.proofs.NodeLemmas.{always_ok, at_join, part_is, join_part, join_collected, leaf_collected, leaf_internal, node_of_leaf, nodes_at_join}
use Rattle.mm_present.proofs.collecting.+collect.Goals as goal

pub leaf_rows-requires : goal.leaf_rows-requires
leaf_rows-requires t c =
    subst (λ x. shapes.IsValid c.args.f (shape x)) (node_of_leaf c.args.node.now c.in-Leaf.leaf c.in-Leaf.is) c.requires.valid

pub collect-requires : goal.collect-requires
collect-requires t c =
    let f = c.args.f in
    let j = at_join f c.args.node.now c.in-Join.field-0 c.in-Join.op c.in-Join.left c.in-Join.right c.in-Join.is c.requires.over c.requires.valid in
    let L = shape (named c.in-Join.left.value) in
    let R = shape (named c.in-Join.right.value) in
    let room = c.requires.room in
    let n : shapes.size (shape (named c.args.node.now)) ≡ shapes.size L + shapes.size R = ap shapes.size j.shape_is in
    let m = nodes_at_join c.args.node.now c.in-Join.field-0 c.in-Join.op c.in-Join.left c.in-Join.right c.in-Join.is in
    let down = c.decreases in
    let e = sym c.deref.ensures in (
      subst (λ x. nodes (named x) < t) e (omega arith),
      (
        subst (λ x. IsOver f x) e j.over_right,
        (
          subst (λ x. shapes.IsValid f (shape (named x))) e j.valid.4,
          (c.requires.few, subst (λ x. shapes.size (shape (named x)) + c.args.after ≤ c.args.total) e (omega arith)),
        ),
      ),
    )

pub overflow_add-beyond : goal.overflow_add-beyond
overflow_add-beyond t c =
    let f = c.args.f in
    let j = at_join f c.args.node.now c.in-Join.field-0 c.in-Join.op c.in-Join.left c.in-Join.right c.in-Join.is c.requires.over c.requires.valid in
    let L = shape (named c.in-Join.left.value) in
    let R = shape (named c.in-Join.right.value) in
    let room = c.requires.room in
    let n : shapes.size (shape (named c.args.node.now)) ≡ shapes.size L + shapes.size R = ap shapes.size j.shape_is in
    let second_is : c.in_ok-second-in-Join.second ≡ boundary_matrix f R = c.in_ok-second-in-Join.ensures.boundary ∙ ap (λ x. boundary_matrix f (shape (named x))) c.deref.ensures in
    let width : c.cols.result ≡ shapes.size R = c.cols.ensures ∙ ap (λ (m : MatrixValue). m.cols) second_is in
    let few = c.requires.few in
    omega arith

pub collect-requires-in-Join : goal.collect-requires-in-Join
collect-requires-in-Join t c =
    let f = c.args.f in
    let j = at_join f c.args.node.now c.in-Join.field-0 c.in-Join.op c.in-Join.left c.in-Join.right c.in-Join.is c.requires.over c.requires.valid in
    let L = shape (named c.in-Join.left.value) in
    let R = shape (named c.in-Join.right.value) in
    let room = c.requires.room in
    let n : shapes.size (shape (named c.args.node.now)) ≡ shapes.size L + shapes.size R = ap shapes.size j.shape_is in
    let second_is : c.in_ok-second-in-Join.second ≡ boundary_matrix f R = c.in_ok-second-in-Join.ensures.boundary ∙ ap (λ x. boundary_matrix f (shape (named x))) c.deref.ensures in
    let width : c.cols.result ≡ shapes.size R = c.cols.ensures ∙ ap (λ (m : MatrixValue). m.cols) second_is in
    let m = nodes_at_join c.args.node.now c.in-Join.field-0 c.in-Join.op c.in-Join.left c.in-Join.right c.in-Join.is in
    let down = c.decreases in
    let e = sym c.deref-in-Join.ensures in (
      subst (λ x. nodes (named x) < t) e (omega arith),
      (
        subst (λ x. IsOver f x) e j.over_left,
        (
          subst (λ x. shapes.IsValid f (shape (named x))) e j.valid.3,
          (c.requires.few, subst (λ x. shapes.size (shape (named x)) + (c.args.after + c.cols.result) ≤ c.args.total) e (omega arith)),
        ),
      ),
    )

pub overflow_sub-before : goal.overflow_sub-before
overflow_sub-before t c =
    let f = c.args.f in
    let j = at_join f c.args.node.now c.in-Join.field-0 c.in-Join.op c.in-Join.left c.in-Join.right c.in-Join.is c.requires.over c.requires.valid in
    let L = shape (named c.in-Join.left.value) in
    let R = shape (named c.in-Join.right.value) in
    let room = c.requires.room in
    let n : shapes.size (shape (named c.args.node.now)) ≡ shapes.size L + shapes.size R = ap shapes.size j.shape_is in
    let second_is : c.in_ok-second-in-Join.second ≡ boundary_matrix f R = c.in_ok-second-in-Join.ensures.boundary ∙ ap (λ x. boundary_matrix f (shape (named x))) c.deref.ensures in
    let width : c.cols.result ≡ shapes.size R = c.cols.ensures ∙ ap (λ (m : MatrixValue). m.cols) second_is in
    omega arith

pub overflow_sub-before-in-Join : goal.overflow_sub-before-in-Join
overflow_sub-before-in-Join t c =
    let f = c.args.f in
    let j = at_join f c.args.node.now c.in-Join.field-0 c.in-Join.op c.in-Join.left c.in-Join.right c.in-Join.is c.requires.over c.requires.valid in
    let L = shape (named c.in-Join.left.value) in
    let R = shape (named c.in-Join.right.value) in
    let room = c.requires.room in
    let n : shapes.size (shape (named c.args.node.now)) ≡ shapes.size L + shapes.size R = ap shapes.size j.shape_is in
    let second_is : c.in_ok-second-in-Join.second ≡ boundary_matrix f R = c.in_ok-second-in-Join.ensures.boundary ∙ ap (λ x. boundary_matrix f (shape (named x))) c.deref.ensures in
    let width : c.cols.result ≡ shapes.size R = c.cols.ensures ∙ ap (λ (m : MatrixValue). m.cols) second_is in
    let first_is : c.in_ok-first-in-Join.first ≡ boundary_matrix f L = c.in_ok-first-in-Join.ensures.boundary ∙ ap (λ x. boundary_matrix f (shape (named x))) c.deref-in-Join.ensures in
    let width_left : c.cols-in-Join.result ≡ shapes.size L = c.cols-in-Join.ensures ∙ ap (λ (m : MatrixValue). m.cols) first_is in
    omega arith

pub join_rows-requires-clause-left : goal.join_rows-requires-clause-left
join_rows-requires-clause-left t c =
    let f = c.args.f in
    let j = at_join f c.args.node.now c.in-Join.field-0 c.in-Join.op c.in-Join.left c.in-Join.right c.in-Join.is c.requires.over c.requires.valid in
    let L = shape (named c.in-Join.left.value) in
    let R = shape (named c.in-Join.right.value) in
    let room = c.requires.room in
    let n : shapes.size (shape (named c.args.node.now)) ≡ shapes.size L + shapes.size R = ap shapes.size j.shape_is in
    let first_is : c.in_ok-first-in-Join.first ≡ boundary_matrix f L = c.in_ok-first-in-Join.ensures.boundary ∙ ap (λ x. boundary_matrix f (shape (named x))) c.deref-in-Join.ensures in
    part_is f c.in-Join.op L c.in-Join.op.op.t1 c.in_ok-first-in-Join.first j.field first_is j.valid.3 j.valid.1

pub join_rows-requires-clause-right : goal.join_rows-requires-clause-right
join_rows-requires-clause-right t c =
    let f = c.args.f in
    let j = at_join f c.args.node.now c.in-Join.field-0 c.in-Join.op c.in-Join.left c.in-Join.right c.in-Join.is c.requires.over c.requires.valid in
    let L = shape (named c.in-Join.left.value) in
    let R = shape (named c.in-Join.right.value) in
    let room = c.requires.room in
    let n : shapes.size (shape (named c.args.node.now)) ≡ shapes.size L + shapes.size R = ap shapes.size j.shape_is in
    let second_is : c.in_ok-second-in-Join.second ≡ boundary_matrix f R = c.in_ok-second-in-Join.ensures.boundary ∙ ap (λ x. boundary_matrix f (shape (named x))) c.deref.ensures in
    let width : c.cols.result ≡ shapes.size R = c.cols.ensures ∙ ap (λ (m : MatrixValue). m.cols) second_is in
    part_is f c.in-Join.op R c.in-Join.op.op.t2 c.in_ok-second-in-Join.second j.field second_is j.valid.4 j.valid.2

pub join_rows-requires-clause-room : goal.join_rows-requires-clause-room
join_rows-requires-clause-room t c =
    let f = c.args.f in
    let j = at_join f c.args.node.now c.in-Join.field-0 c.in-Join.op c.in-Join.left c.in-Join.right c.in-Join.is c.requires.over c.requires.valid in
    let L = shape (named c.in-Join.left.value) in
    let R = shape (named c.in-Join.right.value) in
    let room = c.requires.room in
    let n : shapes.size (shape (named c.args.node.now)) ≡ shapes.size L + shapes.size R = ap shapes.size j.shape_is in
    let second_is : c.in_ok-second-in-Join.second ≡ boundary_matrix f R = c.in_ok-second-in-Join.ensures.boundary ∙ ap (λ x. boundary_matrix f (shape (named x))) c.deref.ensures in
    let width : c.cols.result ≡ shapes.size R = c.cols.ensures ∙ ap (λ (m : MatrixValue). m.cols) second_is in
    let first_is : c.in_ok-first-in-Join.first ≡ boundary_matrix f L = c.in_ok-first-in-Join.ensures.boundary ∙ ap (λ x. boundary_matrix f (shape (named x))) c.deref-in-Join.ensures in
    let width_left : c.cols-in-Join.result ≡ shapes.size L = c.cols-in-Join.ensures ∙ ap (λ (m : MatrixValue). m.cols) first_is in
    let few = c.requires.few in
    let a : c.in_ok-first-in-Join.first.cols ≡ shapes.size L = ap (λ (m : MatrixValue). m.cols) first_is in
    let b : c.in_ok-second-in-Join.second.cols ≡ shapes.size R = ap (λ (m : MatrixValue). m.cols) second_is in
    omega arith

pub returns-in-Leaf-clause-boundary : goal.returns-in-Leaf-clause-boundary
returns-in-Leaf-clause-boundary t c =
    let f = c.args.f in
    IfOk-weaker c.leaf_rows.result (λ (m : MatrixValue). m ≡ boundary_matrix f (shape (named_leaf c.in-Leaf.leaf))) (λ (m : MatrixValue). m ≡ boundary_matrix f (shape (named c.args.node.now))) (λ m e. e ∙ ap (λ x. boundary_matrix f (shape x)) (sym (node_of_leaf c.args.node.now c.in-Leaf.leaf c.in-Leaf.is))) c.leaf_rows.ensures

pub returns-in-Leaf-clause-internal : goal.returns-in-Leaf-clause-internal
returns-in-Leaf-clause-internal t c =
    let f = c.args.f in
    let old = map (λ r. r.items) c.args.internal.now.items in
    let T = shape (named c.args.node.now) in
    always_ok ((before : ℕ) → before + (shapes.size T + c.args.after) ≡ c.args.total → old ≡ old ++ reverse (placed_rows f before c.args.after T))
    c.leaf_rows.result
    (λ before e. leaf_collected f T before c.args.after old
    (ap (λ x. internal (shape x)) (node_of_leaf c.args.node.now c.in-Leaf.leaf c.in-Leaf.is) ∙ leaf_internal c.in-Leaf.leaf))

pub returns-in_ok-first-in-Join-clause-boundary : goal.returns-in_ok-first-in-Join-clause-boundary
returns-in_ok-first-in-Join-clause-boundary t c =
    let f = c.args.f in
    let j = at_join f c.args.node.now c.in-Join.field-0 c.in-Join.op c.in-Join.left c.in-Join.right c.in-Join.is c.requires.over c.requires.valid in
    let L = shape (named c.in-Join.left.value) in
    let R = shape (named c.in-Join.right.value) in
    let room = c.requires.room in
    let n : shapes.size (shape (named c.args.node.now)) ≡ shapes.size L + shapes.size R = ap shapes.size j.shape_is in
    let second_is : c.in_ok-second-in-Join.second ≡ boundary_matrix f R = c.in_ok-second-in-Join.ensures.boundary ∙ ap (λ x. boundary_matrix f (shape (named x))) c.deref.ensures in
    let width : c.cols.result ≡ shapes.size R = c.cols.ensures ∙ ap (λ (m : MatrixValue). m.cols) second_is in
    let first_is : c.in_ok-first-in-Join.first ≡ boundary_matrix f L = c.in_ok-first-in-Join.ensures.boundary ∙ ap (λ x. boundary_matrix f (shape (named x))) c.deref-in-Join.ensures in
    let op = c.in-Join.op in
    let first = c.in_ok-first-in-Join.first in
    let second = c.in_ok-second-in-Join.second in
    let T = shape (named c.args.node.now) in
    IfOk-weaker c.join_rows.result (λ (m : MatrixValue). m ≡ record { f = op.f; cols = first.cols + second.cols; rows = map (joined_row op first second) (range_with_len 0 op.op.t3) }) (λ (m : MatrixValue). m ≡ boundary_matrix f T)
    (λ m e. join_part f op T L R first second m j.field j.shape_is j.valid first_is second_is e)
    c.join_rows.ensures.boundary

pub returns-in_ok-first-in-Join-clause-internal : goal.returns-in_ok-first-in-Join-clause-internal
returns-in_ok-first-in-Join-clause-internal t c =
    let f = c.args.f in
    let j = at_join f c.args.node.now c.in-Join.field-0 c.in-Join.op c.in-Join.left c.in-Join.right c.in-Join.is c.requires.over c.requires.valid in
    let L = shape (named c.in-Join.left.value) in
    let R = shape (named c.in-Join.right.value) in
    let room = c.requires.room in
    let n : shapes.size (shape (named c.args.node.now)) ≡ shapes.size L + shapes.size R = ap shapes.size j.shape_is in
    let second_is : c.in_ok-second-in-Join.second ≡ boundary_matrix f R = c.in_ok-second-in-Join.ensures.boundary ∙ ap (λ x. boundary_matrix f (shape (named x))) c.deref.ensures in
    let width : c.cols.result ≡ shapes.size R = c.cols.ensures ∙ ap (λ (m : MatrixValue). m.cols) second_is in
    let first_is : c.in_ok-first-in-Join.first ≡ boundary_matrix f L = c.in_ok-first-in-Join.ensures.boundary ∙ ap (λ x. boundary_matrix f (shape (named x))) c.deref-in-Join.ensures in
    let width_left : c.cols-in-Join.result ≡ shapes.size L = c.cols-in-Join.ensures ∙ ap (λ (m : MatrixValue). m.cols) first_is in
    let op = c.in-Join.op in
    let first = c.in_ok-first-in-Join.first in
    let second = c.in_ok-second-in-Join.second in
    let T = shape (named c.args.node.now) in
    let after = c.args.after in
    let total = c.args.total in
    let old = map (λ r. r.items) c.args.internal.now.items in
    let mid = map (λ r. r.items) c.collect.new.internal.items in
    let last = map (λ r. r.items) c.collect-in-Join.new.internal.items in
    let new = map (λ r. r.items) c.join_rows.new.internal.items in
    let at = total - (after + c.cols.result) - c.cols-in-Join.result in
    let mid_is : (b : ℕ) → b + (shapes.size R + after) ≡ total → mid ≡ old ++ reverse (placed_rows f b after R) =
    subst (λ x. (b : ℕ) → b + (shapes.size (shape (named x)) + after) ≡ total → mid ≡ old ++ reverse (placed_rows f b after (shape (named x))))
    c.deref.ensures c.in_ok-second-in-Join.ensures.internal in
    let last_is : (b : ℕ) → b + (shapes.size L + (after + shapes.size R)) ≡ total → last ≡ mid ++ reverse (placed_rows f b (after + shapes.size R) L) =
    subst (λ w. (b : ℕ) → b + (shapes.size L + (after + w)) ≡ total → last ≡ mid ++ reverse (placed_rows f b (after + w) L)) width
    (subst (λ x. (b : ℕ) → b + (shapes.size (shape (named x)) + (after + c.cols.result)) ≡ total
    → last ≡ mid ++ reverse (placed_rows f b (after + c.cols.result) (shape (named x)))) c.deref-in-Join.ensures c.in_ok-first-in-Join.ensures.internal) in
    on_ok_weaker {P = new ≡ last ++ reverse (map (widened at after) (map (joined_row op first second) (range_with_len op.op.t3 op.op.c)))} {Q = (before : ℕ) → before + (shapes.size T + after) ≡ total → new ≡ old ++ reverse (placed_rows f before after T)} c.join_rows.result
    (λ e before e_total. join_collected f op T L R first second at before after total old mid last new j.field j.shape_is j.valid first_is second_is
    (ap₂ (λ x y. total - (after + x) - y) width width_left) e_total mid_is last_is e)
    c.join_rows.ensures.internal
