use Rattle.std.proofs.Common.{◌≡◌, false, take}
use Rattle.std.specs.List.{list_any}
use Rattle.mm_checker.specs.Claims.{marks_of}
use Rattle.mm_checker.proofs.rules.is_in_term.Given as goal

abbrev pub invariant-loop-slot : goal.invariant-loop-slot
invariant-loop-slot l = list_any (marks_of l.marks) (take l.slot-index l.slots) ≡ false
