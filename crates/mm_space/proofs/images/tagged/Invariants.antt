use Rattle.std.proofs.Common.{ℕ, ◌+◌, ◌≡◌, ◌<◌, length, get_or}
use Rattle.mm_linear.specs.Coordinates.{unit}
use Rattle.mm_space.proofs.images.tagged.Given as goal

abbrev pub invariant-loop-k : goal.invariant-loop-k
invariant-loop-k l = record {
  size : length l.out ≡ 24;
  front : (i : ℕ) → i < 6 → get_or l.out i 0 ≡ get_or (unit 6 l.place) i 0;
  done : (i : ℕ) → i < l.k → get_or l.out (6 + i) 0 ≡ get_or l.x i 0;
}
