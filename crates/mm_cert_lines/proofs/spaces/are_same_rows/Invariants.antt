use Rattle.std.proofs.Common.{ℕ, ◌≡◌, ◌<◌, true, nat_eq, []}
use Rattle.std.specs.Prelude.{slice_index_or}
use Rattle.std.specs.Cmp.Lexicographic.{pointwise}
use Rattle.mm_cert_lines.proofs.spaces.are_same_rows.Given as goal

abbrev pub invariant-loop-k : goal.invariant-loop-k
invariant-loop-k l = (i : ℕ) → i < l.k → pointwise nat_eq (slice_index_or l.a i []) (slice_index_or l.b i []) ≡ true
