use Rattle.std.proofs.Common.{ℕ, ◌+◌, ◌*◌, ◌^◌, ◌≡◌, ◌<◌, reverse, take}
use Rattle.mm_space.specs.KeyValue.{number_onto}
use Rattle.mm_space.proofs.key.with_row.Given as goal

abbrev pub invariant-loop-k : goal.invariant-loop-k
invariant-loop-k l = record {
  all_is : l.all ≡ number_onto l.packed (reverse (take l.k l.row));
  room : (b : ℕ) → l.packed < 2 ^ b → l.all < 2 ^ (b + 3 * l.k);
}
