use Rattle.std.proofs.Common.{◌≡◌, ◌<◌, [], length, drop, get_or}
use Rattle.mm_logic.specs.Least as least_spec
use Rattle.mm_reference_meaning.specs.Formulas.{tests_of}
use Rattle.mm_reference_meaning.proofs.first_sets.first_place.Given as goal

abbrev pub invariant-loop-i : goal.invariant-loop-i
invariant-loop-i l =
    (l.best < length l.sets)
    × (least_spec.first_of l.weights (get_or (tests_of l.sets) l.best []) (drop l.i (tests_of l.sets))
    ≡ least_spec.first_of l.weights (get_or (tests_of l.sets) 0 []) (drop 1 (tests_of l.sets)))
