use Rattle.std.proofs.Common.{◌≡◌, map, take, position}
use Rattle.std.specs.Str.{bytes_eq}
use Rattle.mm_present.proofs.comparison.places_of.Given as goal

abbrev pub invariant-loop-k : goal.invariant-loop-k
invariant-loop-k l = l.places.items ≡ map (λ name. position (bytes_eq name) l.set.keys) (take l.k l.names)
