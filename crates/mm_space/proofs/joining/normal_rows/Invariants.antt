use Rattle.std.proofs.Common.{ℕ, ◌≡◌, ◌<◌, ◌≤◌, [], get_or, length, map, take}
use Rattle.mm_field.specs.Vectors.{zeros}
use Rattle.mm_space.specs.JoinForms.{normal}
use Rattle.mm_space.proofs.joining.normal_rows.Given as goal

abbrev pub invariant-loop-i : goal.invariant-loop-i
invariant-loop-i l = record {
  low : l.i ≤ length l.g;
  size : length l.out ≡ 6;
  rest : (k : ℕ) → l.i ≤ k → k < 6 → get_or l.out k [] ≡ zeros 24;
  done : take l.i l.out ≡ take l.i (map (normal l.f l.r l.held) l.g);
}
