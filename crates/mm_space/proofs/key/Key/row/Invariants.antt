use Rattle.std.proofs.Common.{ℕ, ◌≡◌, ◌<◌, ◌≤◌, [], get_or, length}
use Rattle.mm_space.proofs.key.Key.row.Given as goal

abbrev pub invariant-loop-j : goal.invariant-loop-j
invariant-loop-j l = record {
  size : length l.digits ≡ 24;
  done : (k : ℕ) → k < l.j → get_or l.digits k 0 ≡ get_or (get_or l.self.rows l.i []) k 0;
  rest : (k : ℕ) → l.j ≤ k → k < 24 → get_or l.digits k 0 ≡ 0;
}
