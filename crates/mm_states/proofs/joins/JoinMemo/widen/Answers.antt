use Rattle.std.proofs.Common.{length, ◌<◌, arith}
use Rattle.mm_states.proofs.MemoLemmas.{widened, grid_at}
use Rattle.mm_states.proofs.joins.JoinMemo.widen.Goals as goal

pub returns-in-Ok : goal.returns-in-Ok
returns-in-Ok c =
    let m = c.args.self.now in
    let g = c.index-old.result.now in
    let within : c.args.op < length m.grids.items = omega (arith, c.if-op-len.false, c.len.ensures, m.grids.ok) in
    widened m.grids.items m.cache.shift m.cache.slots.items c.args.op g c.in-Ok.wider (grid_at m.grids.items c.args.op g within c.index-old.ensures) within
    (omega (arith, c.if-width.false, c.width.ensures, c.in-Ok.ensures.width)) c.in-Ok.ensures.answers
