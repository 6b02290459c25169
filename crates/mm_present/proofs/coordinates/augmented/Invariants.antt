use Rattle.std.proofs.Common.{◌≡◌, ◌+◌, take}
use Rattle.mm_present.specs.Bases.{beside, negative_units}
use Rattle.mm_present.proofs.coordinates.augmented.Given as goal

abbrev pub invariant-loop-k : goal.invariant-loop-k
invariant-loop-k l = l.rows ≡ record { f = l.fn.f; cols = l.r + l.t; rows = beside (take l.k l.g) (negative_units l.fn.f l.t l.k) }
