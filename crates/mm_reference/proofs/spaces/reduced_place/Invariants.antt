use Rattle.std.proofs.Common.{◌<◌, ℕ, [], slice_index_or}
use Rattle.mm_reference_meaning.specs.Rows.{rows_of}
use Rattle.mm_reference.specs.Spaces.{IsReducedRow}
use Rattle.mm_reference.proofs.spaces.reduced_place.Given as goal

abbrev pub invariant-loop-i : goal.invariant-loop-i
invariant-loop-i l = (j : ℕ) → j < l.i → IsReducedRow l.k (rows_of l.space) (slice_index_or (rows_of l.space) j []) → ⊥
