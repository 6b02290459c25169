use Rattle.std.proofs.Common.{◌≡◌, ◌<◌, map, take, All}
use Rattle.mm_formula.specs.Scope.{slot_in}
use Rattle.mm_machine.specs.Scopes.{names}
use Rattle.mm_machine.proofs.scope.slots_of.Given as goal

abbrev pub invariant-loop-i : goal.invariant-loop-i
invariant-loop-i l = (l.slots.items ≡ map (slot_in (names l.binders)) (take l.i l.vars)) × All (λ k. k < 16) l.slots.items
