use Rattle.std.proofs.Common.{◌≡◌, ◌++◌, map, take, drop, get_or}
use Rattle.mm_present.proofs.coordinates.read_off.Given as goal

abbrev pub invariant-loop-k : goal.invariant-loop-k
invariant-loop-k l = l.read.items ≡ drop l.r l.digits ++ map (λ k. get_or l.digits k 0) (take l.k-index l.places)
