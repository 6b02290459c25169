use Rattle.std.proofs.Common.{◌≡◌, ◌+◌, ◌++◌, filter, take}
use Rattle.mm_field.specs.Vectors.{zeros}
use Rattle.mm_linear.specs.Decide.{is_in_span}
use Rattle.mm_reference_meaning.specs.Rows.{rows_of}
use Rattle.mm_reference.proofs.spaces.boundary_vectors.Given as goal

abbrev pub invariant-loop-vector : goal.invariant-loop-vector
invariant-loop-vector l =
    rows_of l.kept.items ≡ filter (λ b. is_in_span l.f (l.t + l.m) (rows_of l.columns) (b ++ zeros l.m)) (take l.vector-index (rows_of l.vector-items))
