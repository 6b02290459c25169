use Rattle.std.proofs.Common.{take}
use Rattle.mm_field.specs.Vectors.{AreDigits}
use Rattle.mm_reference_meaning.proofs.validity.are_digits.Given as goal

abbrev pub invariant-loop-d : goal.invariant-loop-d
invariant-loop-d l = AreDigits l.f (take l.d-index l.v)
