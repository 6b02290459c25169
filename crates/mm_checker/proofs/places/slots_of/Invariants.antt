use Rattle.std.proofs.Common.{◌≡◌, take, map}
use Rattle.mm_formula.specs.Scope.{slot_in}
use Rattle.mm_checker.specs.KeptBinders.{names}
use Rattle.mm_checker.proofs.places.slots_of.Given as goal

abbrev pub invariant-loop-i : goal.invariant-loop-i
invariant-loop-i l = l.slots.items ≡ map (slot_in (names l.binders)) (take l.i l.vars)
