use Rattle.std.proofs.Common.{ℕ, ◌≡◌, ◌<◌}
use Rattle.mm_matrix.specs.BitRows.{bit_of}
use Rattle.mm_matrix.proofs.bit_rows.first_one.Given as goal

abbrev pub invariant-loop-k : goal.invariant-loop-k
invariant-loop-k l = (j : ℕ) → j < l.k → bit_of l.words j ≡ 0
