use Rattle.std.proofs.Common.{sym}
use Rattle.mm_states.specs.Cells.{cache_answer}
use Rattle.mm_states.proofs.CacheLemmas.{copied}
use Rattle.mm_states.proofs.cache.copy_slot.Goals as goal

pub returns-in-Some : goal.returns-in-Some
returns-in-Some c =
    let old = c.args.old.now in
    let mid = c.args.new.now in
    let new = c.put.new.self in
    copied (cache_answer old.shift old.slots.items) (cache_answer mid.shift mid.slots.items) (cache_answer new.shift new.slots.items) c.args.slot.now.op c.args.slot.now.left c.args.slot.now.right c.in-Some.id
    c.requires (sym c.in-Some.ensures.answer) c.put.ensures.others
