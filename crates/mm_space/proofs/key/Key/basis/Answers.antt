use Rattle.std.proofs.Common.{◌≡◌, arith, length, ap, ◌∙◌}
use Rattle.std.proofs.lemmas.List.{length-take-le}
use Rattle.mm_space.proofs.key.Key.basis.Goals as goal

pub push-requires : goal.push-requires
push-requires c =
    let more = c.loop-i-test.true in
    let count = c.rank-i-end.ensures.count in
    let few = c.rank-i-end.ensures.few in
    let e : length c.loop-i.rows ≡ c.loop-i.i = ap length c.loop-i.invariant ∙ length-take-le c.loop-i.i c.args.self.now.rows (omega arith) in
    omega arith
