use Rattle.std.proofs.Common.{◌+◌, map, [], ◌∷◌, ◌++◌, sym, ap, subst, ◌∙◌, arith}
use Rattle.std.specs.List.{range_with_len}
use Rattle.mm_field.specs.Vectors.{IsVector}
use Rattle.mm_logic.specs.Operator.{row_length}
use Rattle.mm_present.specs.Joining.{join_row}
use Rattle.mm_present.proofs.GrowLemmas.{row_pushed, row_fits}
use Rattle.std.proofs.Common.{append-nil}
use Rattle.std.proofs.lemmas.List.FromFn.{map-range_with_len_more}
use Rattle.mm_present.proofs.JoinRowLemmas.{join_row_vector}
use Rattle.mm_present.proofs.collecting.boundary_of_join.Goals as goal

pub push_row-requires : goal.push_row-requires
push_row-requires c =
    let op = c.args.op.now in
    let left = c.args.left.now in
    let right = c.args.right.now in
    row_fits op.f (left.rows.cols + right.rows.cols) c.loop-k.rows (map (join_row left right) (range_with_len 0 c.loop-k.k)) c.deref.result.now c.loop-k.invariant
    (subst (λ v. IsVector op.f (left.rows.cols + right.rows.cols) v)
    (sym (c.deref.ensures.value ∙ c.in_ok-row.ensures ∙ append-nil (join_row left right c.loop-k.k)))
    (join_row_vector op.f (row_length op.op) c.loop-k.k left right c.requires.left c.requires.right))

pub loop-k-preserved : goal.loop-k-preserved
loop-k-preserved c =
    let op = c.args.op.now in
    let left = c.args.left.now in
    let right = c.args.right.now in
    let k = c.loop-k.k in
    let h = join_row left right in
    row_pushed op.f (left.rows.cols + right.rows.cols) c.loop-k.rows c.push_row.new.self (map h (range_with_len 0 k)) (map h (range_with_len 0 (k + 1)))
    c.deref.result.now c.loop-k.invariant c.in_ok-push_row.ensures.ok
    (ap (λ v. map h (range_with_len 0 k) ++ v ∷ []) (c.deref.ensures.value ∙ c.in_ok-row.ensures ∙ append-nil (h k))
    ∙ sym (map-range_with_len_more h 0 k k (omega arith)))
