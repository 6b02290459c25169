use Rattle.std.proofs.Common.{◌≡◌, false, take}
use Rattle.std.specs.List.{list_any}
use Rattle.mm_reference_meaning.specs.Formulas.{marks_of}
use Rattle.mm_reference_meaning.proofs.meaning.in_term.Given as goal

abbrev pub invariant-loop-k : goal.invariant-loop-k
invariant-loop-k l = list_any (marks_of l.marks) (take l.k-index l.term.slots.items) ≡ false
