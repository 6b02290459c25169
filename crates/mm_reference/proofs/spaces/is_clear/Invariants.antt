use Rattle.std.proofs.Common.{◌<◌, ℕ, [], slice_index_or}
use Rattle.mm_reference_meaning.specs.Rows.{rows_of}
use Rattle.mm_reference.specs.Spaces.{IsClearOf}
use Rattle.mm_reference.proofs.spaces.is_clear.Given as goal

abbrev pub invariant-loop-vector : goal.invariant-loop-vector
invariant-loop-vector l = (i : ℕ) → i < l.vector-index → IsClearOf l.k l.row (slice_index_or (rows_of l.space) i [])
