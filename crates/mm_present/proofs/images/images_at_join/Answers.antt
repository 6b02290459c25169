use Rattle.std.proofs.Common.{◌≡◌, map}
use Rattle.std.proofs.lemmas.Result.{IfOk-weaker}
use Rattle.mm_field.specs.Vectors.{times_matrix}
use Rattle.mm_matrix.specs.MatrixValue.{MatrixValue}
use Rattle.mm_present.specs.Images.{joined_images}
use Rattle.mm_present.proofs.ImageWalkLemmas.{images_at}
use Rattle.mm_present.proofs.images.images_at_join.Goals as goal

pub returns : goal.returns
returns c =
    let op = c.args.op.now in
    let left = c.args.left in
    let right = c.args.right.now in
    let coefficients = c.in_ok-coefficients.coefficients in
    let all = c.in_ok-images.images in
    IfOk-weaker c.times.result
    (λ (m : MatrixValue). m ≡ record { f = coefficients.f; cols = all.cols; rows = map (times_matrix coefficients.f all.cols all.rows) coefficients.rows })
    (λ (m : MatrixValue). m ≡ record { f = op.f; cols = left.cols; rows = joined_images op left.cols left.rows right.rows })
    (λ m e. images_at op c.in_ok-digits.digits.now c.field.result c.t3.result c.c.result left right c.new-none.result c.in_ok-first.first c.in_ok-both.both
    coefficients all m c.in_ok-digits.ensures c.field.ensures.field c.t3.ensures c.c.ensures c.new-none.ensures c.in_ok-first.ensures c.in_ok-both.ensures
    c.in_ok-coefficients.ensures c.in_ok-images.ensures e)
    c.times.ensures
