use Rattle.std.proofs.Common.{ℕ, ◌≡◌, ◌+◌, ◌<◌, ◌≤◌, ◌/◌, length, get_or}
use Rattle.mm_matrix.specs.BitRows.{bit_of}
use Rattle.mm_matrix.proofs.bit_rows.packed.Given as goal

abbrev pub invariant-loop-k : goal.invariant-loop-k
invariant-loop-k l = record {
  size : length l.words.items ≡ length l.row / 64 + 1;
  done : (j : ℕ) → j < l.k → bit_of l.words.items j ≡ get_or l.row j 0;
  rest : (j : ℕ) → l.k ≤ j → bit_of l.words.items j ≡ 0;
}
