use Rattle.std.proofs.Common.{◌<◌, ◌^◌, arith}
use Rattle.mm_present.proofs.images.rows_from.Goals as goal

pub overflow_add-start : goal.overflow_add-start
overflow_add-start c =
    let n = c.rows.ensures.count in
    let small : c.rows.result < 2 ^ 64 = c.rows.type_inv in
    let r = c.requires in
    let l = c.loop-i-test.true in
    omega arith
