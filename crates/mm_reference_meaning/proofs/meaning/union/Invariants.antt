use Rattle.std.proofs.Common.{◌≡◌, map, take}
use Rattle.mm_logic.specs.Meaning as meaning
use Rattle.mm_reference_meaning.specs.Formulas.{marks_of, term_of}
use Rattle.mm_reference_meaning.proofs.meaning.union.Given as goal

abbrev pub invariant-loop-m : goal.invariant-loop-m
invariant-loop-m l = l.tests.items ≡ meaning.union (term_of l.term) (map marks_of (take l.m-index l.marks))
