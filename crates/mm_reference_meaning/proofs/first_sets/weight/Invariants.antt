use Rattle.std.proofs.Common.{◌≡◌, ◌*◌, ◌^◌, pos, neg_ℤ, ◌≤ℤ◌, take}
use Rattle.mm_logic.specs.Least as least_spec
use Rattle.mm_reference_meaning.proofs.first_sets.weight.Given as goal

abbrev pub invariant-loop-i : goal.invariant-loop-i
invariant-loop-i l =
    (l.sum ≡ least_spec.weight (take l.i l.weights) (take l.i l.set))
    × (neg_ℤ (pos (l.i * 2 ^ 63)) ≤ℤ l.sum) × (l.sum ≤ℤ pos (l.i * 2 ^ 63))
