use Rattle.mm_states.specs.Cells.{cache_answer, Forgets}
use Rattle.mm_states.proofs.cache.larger.Given as goal

abbrev pub invariant-loop-slot : goal.invariant-loop-slot
invariant-loop-slot l = Forgets (cache_answer l.old.shift l.old.slots.items) (cache_answer l.new.shift l.new.slots.items)
