use Rattle.std.proofs.Common.{arith}
use Rattle.mm_least.proofs.FoundLemmas.{adds_found}
use Rattle.mm_least.proofs.pass.put_new.Goals as goal

pub returns-then-room-eq0 : goal.returns-then-room-eq0
returns-then-room-eq0 c = λ e. c.if-room-eq0.true

pub put_new-requires-clause-few : goal.put_new-requires-clause-few
put_new-requires-clause-few c =
    let few = c.requires.few in
    let count = c.requires.found.counted in
    let some = c.if-room-eq0.false in
    omega (arith, few, count, some)

pub returns : goal.returns
returns c = adds_found c.args.row c.args.found.now c.put_new.new.self c.args.room.now c.put_new.result c.if-room-eq0.false c.put_new.ensures
