use Rattle.std.proofs.Common.{◌+◌, ◌*◌, ◌^◌, ◌≡◌, ◌<◌, arith, length, get_or}
use Rattle.mm_space.proofs.PackLemmas.{row_step, room_step, power_most}
use Rattle.mm_space.proofs.key.with_row.Goals as goal

pub overflow_mul-all : goal.overflow_mul-all
overflow_mul-all c =
    let more = c.loop-k-test.true in
    let narrow = c.requires.narrow in
    let small : c.loop-k.all < 2 ^ 105 = power_most (90 + 3 * c.loop-k.k) 105 c.loop-k.all (c.loop-k.invariant.room 90 c.requires.room) (omega arith) in
    omega arith

pub overflow_add-all : goal.overflow_add-all
overflow_add-all c =
    let more = c.loop-k-test.true in
    let narrow = c.requires.narrow in
    let told : length c.args.row.now ≡ 24 = c.told-row in
    let digit : get_or c.args.row.now c.loop-k.k 0 < 8 = c.requires.digits c.loop-k.k 0 (omega arith) in
    let small : c.loop-k.all < 2 ^ 105 = power_most (90 + 3 * c.loop-k.k) 105 c.loop-k.all (c.loop-k.invariant.room 90 c.requires.room) (omega arith) in
    omega arith

pub loop-k-preserved : goal.loop-k-preserved
loop-k-preserved c =
    let more = c.loop-k-test.true in
    let narrow = c.requires.narrow in
    let told : length c.args.row.now ≡ 24 = c.told-row in
    record {
      all_is = row_step c.args.packed c.loop-k.all c.loop-k.k c.args.row.now (omega arith) c.loop-k.invariant.all_is;
      room = λ b l. room_step b c.loop-k.k c.loop-k.all (get_or c.args.row.now c.loop-k.k 0)
          (c.requires.digits c.loop-k.k 0 (omega arith)) (c.loop-k.invariant.room b l);
    }

pub returns-clause-room : goal.returns-clause-room
returns-clause-room c = λ b l.
    let narrow = c.requires.narrow in
    let ended = c.loop-k.auto.k-end in
    power_most (b + 3 * c.loop-k.k) (b + 18) c.loop-k.all (c.loop-k.invariant.room b l) (omega arith)
