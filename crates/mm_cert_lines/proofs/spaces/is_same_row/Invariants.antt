use Rattle.std.proofs.Common.{ℕ, ◌≡◌, ◌<◌, true, nat_eq}
use Rattle.std.specs.Prelude.{slice_index_or}
use Rattle.mm_cert_lines.proofs.spaces.is_same_row.Given as goal

abbrev pub invariant-loop-k : goal.invariant-loop-k
invariant-loop-k l = (i : ℕ) → i < l.k → nat_eq (slice_index_or l.a i 0) (slice_index_or l.b i 0) ≡ true
