use Rattle.std.proofs.Common.{arith}
use Rattle.mm_states.proofs.CacheLemmas.{put_keeps}
use Rattle.mm_states.proofs.cache.Cache.put.Goals as goal

pub returns-clause-others : goal.returns-clause-others
returns-clause-others c =
    put_keeps c.args.self.now.shift c.args.op c.args.left c.args.right c.args.id c.args.self.now.slots.items c.place-place.result (omega (arith, c.if-place-len.false, c.len.ensures, c.args.self.now.slots.ok))
