use Rattle.mm_states.specs.Cells.{cache_answer}
use Rattle.mm_states.proofs.CacheLemmas.{kept_after}
use Rattle.mm_states.proofs.cache.Cache.keep.Goals as goal

pub returns-then-put-clause-others : goal.returns-then-put-clause-others
returns-then-put-clause-others c =
    let old = c.args.self.now in
    let mid = c.make_places.new.self in
    let new = c.put.new.self in
    kept_after (cache_answer old.shift old.slots.items) (cache_answer mid.shift mid.slots.items) (cache_answer new.shift new.slots.items) c.args.op c.args.left c.args.right c.args.id
    c.make_places.ensures c.put.ensures.others

pub returns-else-put-clause-others : goal.returns-else-put-clause-others
returns-else-put-clause-others c =
    let old = c.args.self.now in
    let mid = c.make_places.new.self in
    let new = c.put.new.self in
    kept_after (cache_answer old.shift old.slots.items) (cache_answer mid.shift mid.slots.items) (cache_answer new.shift new.slots.items) c.args.op c.args.left c.args.right c.args.id
    c.make_places.ensures c.put.ensures.others
