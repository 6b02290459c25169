use Rattle.std.proofs.Common.{ℕ, ◌≡◌, ◌<◌, ◌≤◌, get_or, bit_xor}
use Rattle.mm_matrix.proofs.bit_rows.add.Given as goal

abbrev pub invariant-loop-i : goal.invariant-loop-i
invariant-loop-i l = record {
  done : (k : ℕ) → k < l.i → get_or l.y k 0 ≡ bit_xor (get_or l.initial.y k 0) (get_or l.x k 0);
  rest : (k : ℕ) → l.i ≤ k → get_or l.y k 0 ≡ get_or l.initial.y k 0;
}
