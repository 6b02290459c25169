use Rattle.std.proofs.Common.{◌≡◌, ◌+◌, length, ap, ◌∙◌, arith}
use Rattle.mm_matrix.specs.MatrixValue.{MatrixValue}
use Rattle.mm_present.proofs.ImageWalkLemmas.{length-joined_images}
use Rattle.mm_present.proofs.images.boundary_images.Goals as goal

pub are_zero_from-requires : goal.are_zero_from-requires
are_zero_from-requires c =
    let op = c.args.op.now in
    let n : length c.in_ok-images.images.rows ≡ op.op.t3 + op.op.c =
    ap (λ (m : MatrixValue). length m.rows) c.in_ok-images.ensures ∙ length-joined_images op c.args.left.cols c.args.left.rows c.args.right.now.rows in
    let t = c.t3-t3.ensures in
    omega arith

pub rows_from-requires : goal.rows_from-requires
rows_from-requires c =
    let op = c.args.op.now in
    let n : length c.in_ok-images.images.rows ≡ op.op.t3 + op.op.c =
    ap (λ (m : MatrixValue). length m.rows) c.in_ok-images.ensures ∙ length-joined_images op c.args.left.cols c.args.left.rows c.args.right.now.rows in
    let t = c.t3-t3.ensures in
    omega arith
