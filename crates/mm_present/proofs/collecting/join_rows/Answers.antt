use Rattle.std.proofs.Common.{◌≡◌, ◌+◌, map, reverse, ◌++◌, ap, ap₂, ◌∙◌}
use Rattle.std.proofs.lemmas.Result.{IfOk-weaker}
use Rattle.std.specs.List.{range_with_len}
use Rattle.mm_matrix.specs.MatrixValue.{MatrixValue}
use Rattle.mm_present.specs.Joining.{join_row, joined_row, widened}
use Rattle.mm_present.proofs.RangeLemmas.{same_range}
use Rattle.mm_present.proofs.JoinRowLemmas.{side_is, join_row_is}
use Rattle.mm_present.proofs.NodeLemmas.{always_ok}
use Rattle.mm_present.proofs.collecting.join_rows.Goals as goal

pub push_internal-requires-clause-left : goal.push_internal-requires-clause-left
push_internal-requires-clause-left c =
    side_is c.args.op.now c.args.op.now.op.t1 c.args.left c.args.op.now.op.g1 c.new-left.result c.requires.left c.field.ensures.valid.first.count
    (c.new-left.ensures.0, c.new-left.ensures.1 ∙ c.in_ok-digits.ensures.first)

pub push_internal-requires-clause-right : goal.push_internal-requires-clause-right
push_internal-requires-clause-right c =
    side_is c.args.op.now c.args.op.now.op.t2 c.args.right c.args.op.now.op.g2 c.new-right.result c.requires.right c.field.ensures.valid.second.count
    (c.new-right.ensures.0, c.new-right.ensures.1 ∙ c.in_ok-digits.ensures.second)

pub boundary_of_join-requires-clause-left : goal.boundary_of_join-requires-clause-left
boundary_of_join-requires-clause-left c =
    side_is c.args.op.now c.args.op.now.op.t1 c.args.left c.args.op.now.op.g1 c.new-left.result c.requires.left c.field.ensures.valid.first.count
    (c.new-left.ensures.0, c.new-left.ensures.1 ∙ c.in_ok-digits.ensures.first)

pub boundary_of_join-requires-clause-right : goal.boundary_of_join-requires-clause-right
boundary_of_join-requires-clause-right c =
    side_is c.args.op.now c.args.op.now.op.t2 c.args.right c.args.op.now.op.g2 c.new-right.result c.requires.right c.field.ensures.valid.second.count
    (c.new-right.ensures.0, c.new-right.ensures.1 ∙ c.in_ok-digits.ensures.second)

pub returns-clause-boundary : goal.returns-clause-boundary
returns-clause-boundary c =
    let op = c.args.op.now in
    let l = c.args.left in
    let r = c.args.right in
    let left = c.new-left.result in
    let right = c.new-right.result in
    IfOk-weaker c.boundary_of_join.result (λ (m : MatrixValue). m ≡ record { f = op.f; cols = left.rows.cols + right.rows.cols; rows = map (join_row left right) (range_with_len 0 op.op.t3) }) (λ (m : MatrixValue). m ≡ record { f = op.f; cols = l.cols + r.cols; rows = map (joined_row op l r) (range_with_len 0 op.op.t3) })
    (λ m e. e ∙ ap₂ (λ (a b : MatrixValue). record { f = op.f; cols = a.cols + b.cols; rows = map (join_row left right) (range_with_len 0 op.op.t3) })
    c.new-left.ensures.0 c.new-right.ensures.0
    ∙ ap (λ rows. record { f = op.f; cols = l.cols + r.cols; rows = rows })
    (same_range (join_row left right) (joined_row op l r) 0 op.op.t3
    (λ k low high. join_row_is op l r left right k c.requires.left.field c.requires.right.field
    (c.new-left.ensures.0, c.new-left.ensures.1 ∙ c.in_ok-digits.ensures.first)
    (c.new-right.ensures.0, c.new-right.ensures.1 ∙ c.in_ok-digits.ensures.second))))
    c.boundary_of_join.ensures

pub returns-clause-internal : goal.returns-clause-internal
returns-clause-internal c =
    let op = c.args.op.now in
    let l = c.args.left in
    let r = c.args.right in
    let left = c.new-left.result in
    let right = c.new-right.result in
    always_ok (map (λ r. r.items) c.push_internal.new.internal.items ≡ map (λ r. r.items) c.args.internal.now.items
    ++ reverse (map (widened c.args.before c.args.after) (map (joined_row op l r) (range_with_len op.op.t3 op.op.c))))
    c.boundary_of_join.result
    (c.in_ok-push_internal.ensures
    ∙ ap (λ rows. map (λ r. r.items) c.args.internal.now.items ++ reverse (map (widened c.args.before c.args.after) rows))
    (same_range (join_row left right) (joined_row op l r) op.op.t3 op.op.c
    (λ k low high. join_row_is op l r left right k c.requires.left.field c.requires.right.field
    (c.new-left.ensures.0, c.new-left.ensures.1 ∙ c.in_ok-digits.ensures.first)
    (c.new-right.ensures.0, c.new-right.ensures.1 ∙ c.in_ok-digits.ensures.second))))
