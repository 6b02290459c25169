use Rattle.std.proofs.Common.{◌≡◌, ◌≤◌, ◌<◌, All, length}
use Rattle.mm_base_auto.specs.Terms.{slots_below}
use Rattle.mm_base_auto.proofs.ind.IndAuto.new.Given as goal

abbrev pub invariant-loop-k : goal.invariant-loop-k
invariant-loop-k l = (l.slots.items ≡ slots_below l.k l.term.slots) × (length l.slots.items ≤ l.k) × All (λ s. s < 16) l.slots.items × (l.slots.capacity ≡ 16)
