use Rattle.std.proofs.Common.{ℕ, ◌+◌, ◌≡◌, ◌<◌, ◌≤◌, get_or, length}
use Rattle.mm_field.specs.Digits.{order}
use Rattle.mm_space.proofs.vector.Vector.read_digits.Given as goal

abbrev pub invariant-loop-i : goal.invariant-loop-i
invariant-loop-i l = record {
  size : length l.digits ≡ 24;
  done : (k : ℕ) → k < l.i → (get_or l.digits k 0 < order l.f) × (get_or l.digits k 0 + 48 ≡ get_or l.bytes k 0);
  rest : (k : ℕ) → l.i ≤ k → k < 24 → get_or l.digits k 0 ≡ 0;
}
