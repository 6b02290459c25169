use Rattle.std.proofs.Common.{◌+◌, ap₂}
use Rattle.mm_logic.specs.Operator.{row_length}
use Rattle.mm_checker.proofs.SpaceLemmas.{spans_images, is_preimage, Sides, meet_is, joined_is}
use Rattle.mm_checker.proofs.spaces.join_spaces.Goals as goal

pub returns-then-not-meets_only_in_zero : goal.returns-then-not-meets_only_in_zero
returns-then-not-meets_only_in_zero c =
    let op = c.args.op.now in
    let f = c.field-f.ensures.field in
    let r = ap₂ (λ x y. x + y) c.t3.ensures c.c.ensures in
    let sides : Sides op.f op.op c.args.left.now c.args.right.now c.image-first.result c.image-second.result = record {
      valid = c.field-f.ensures.valid;
      left_images = spans_images op.f _ (row_length op.op) _ op.op.g1 _ c.args.left.now.rows _ f r c.g1.ensures c.image-first.ensures.span;
      right_images = spans_images op.f _ (row_length op.op) _ op.op.g2 _ c.args.right.now.rows _ f r c.g2.ensures c.image-second.ensures.span;
    } in
    meet_is op.f op.op c.args.left.now c.args.right.now _ _ sides c.meets_only_in_zero.result c.meets_only_in_zero.ensures
    c.if-not-meets_only_in_zero.true

pub returns : goal.returns
returns c =
    let op = c.args.op.now in
    let f = c.field-f.ensures.field in
    let r = ap₂ (λ x y. x + y) c.t3.ensures c.c.ensures in
    let sides : Sides op.f op.op c.args.left.now c.args.right.now c.image-first.result c.image-second.result = record {
      valid = c.field-f.ensures.valid;
      left_images = spans_images op.f _ (row_length op.op) _ op.op.g1 _ c.args.left.now.rows _ f r c.g1.ensures c.image-first.ensures.span;
      right_images = spans_images op.f _ (row_length op.op) _ op.op.g2 _ c.args.right.now.rows _ f r c.g2.ensures c.image-second.ensures.span;
    } in
    joined_is op.f op.op c.args.left.now c.args.right.now _ _ sides c.sum.result c.preimage.result c.sum.ensures.span
    (is_preimage c.sum.result op.op.g3 _ op.op.t3 _ c.preimage.result c.g3.ensures c.t3-2.ensures c.preimage.ensures)
    c.meets_only_in_zero.result c.meets_only_in_zero.ensures c.if-not-meets_only_in_zero.false
