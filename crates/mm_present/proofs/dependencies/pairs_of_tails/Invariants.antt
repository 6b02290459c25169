use Rattle.std.proofs.Common.{◌≡◌, take}
use Rattle.mm_present.specs.Dependencies.{least_place, tails, with_boundary}
use Rattle.mm_present.proofs.dependencies.pairs_of_tails.Given as goal

abbrev pub invariant-loop-i : goal.invariant-loop-i
invariant-loop-i l = record {
  pairs : l.pairs ≡ record { f = l.space.f; cols = l.cols; rows = with_boundary l.t (tails l.c (take l.i l.space.rows)) };
  least : l.least ≡ least_place l.fn.least (tails l.t (tails l.c (take l.i l.space.rows)));
}
