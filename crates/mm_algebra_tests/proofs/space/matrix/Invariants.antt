use Rattle.std.proofs.Common.{ℕ, ◌≡◌, ◌<◌, [], get_or, length}
use Rattle.mm_algebra_tests.proofs.space.matrix.Given as goal

abbrev pub invariant-loop-k : goal.invariant-loop-k
invariant-loop-k l = (k : ℕ) → k < l.k → length (get_or l.g k []) ≡ l.r
