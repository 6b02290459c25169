use Rattle.std.proofs.Common.{◌≡◌, map, take}
use Rattle.mm_logic.specs.Marks as marks_spec
use Rattle.mm_reference_meaning.specs.Formulas.{marks_of}
use Rattle.mm_reference_meaning.proofs.meaning.assign.Given as goal

abbrev pub invariant-loop-i : goal.invariant-loop-i
invariant-loop-i l = map marks_of l.assigned.items ≡ marks_spec.assign l.k (take l.i l.set) (map marks_of (take l.i l.marks))
