use Rattle.std.proofs.Common.{◌≡◌}
use Rattle.mm_space.proofs.EqualDigits.{AgreeBelow}
use Rattle.mm_space.proofs.vector.are_equal.Given as goal

abbrev pub invariant-loop-k : goal.invariant-loop-k
invariant-loop-k l = record {
  same : l.difference ≡ 0 → AgreeBelow l.k l.a l.b;
  none : AgreeBelow l.k l.a l.b → l.difference ≡ 0;
}
