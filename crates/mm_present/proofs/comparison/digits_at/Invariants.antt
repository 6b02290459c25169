use Rattle.std.proofs.Common.{◌≡◌, map, take}
use Rattle.mm_present.specs.Comparing.{digit_at}
use Rattle.mm_present.proofs.comparison.digits_at.Given as goal

abbrev pub invariant-loop-k : goal.invariant-loop-k
invariant-loop-k l = l.digits.items ≡ map (digit_at l.row) (take l.k l.places)
