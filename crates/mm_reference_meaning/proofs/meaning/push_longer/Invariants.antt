use Rattle.std.proofs.Common.{◌≡◌, ◌∷◌, ◌++◌, map, take}
use Rattle.mm_reference_meaning.specs.Formulas.{tests_of}
use Rattle.mm_reference_meaning.proofs.meaning.push_longer.Given as goal

abbrev pub invariant-loop-set : goal.invariant-loop-set
invariant-loop-set l = tests_of l.out.items ≡ tests_of l.initial.out.items ++ map (λ X. l.first ∷ X) (tests_of (take l.set-index l.sets))
