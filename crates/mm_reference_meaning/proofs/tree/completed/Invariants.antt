use Rattle.std.proofs.Common.{◌≡◌, ◌++◌, map, filter, not}
use Rattle.std.specs.List.{range_with_len}
use Rattle.mm_linear.specs.Coordinates.{unit, is_pivot}
use Rattle.mm_reference_meaning.specs.Rows.{rows_of}
use Rattle.mm_reference_meaning.proofs.tree.completed.Given as goal

abbrev pub invariant-loop-k : goal.invariant-loop-k
invariant-loop-k l = rows_of l.basis.items ≡ rows_of l.rows ++ map (unit l.r) (filter (λ k. not (is_pivot l.f (rows_of l.rows) k)) (range_with_len 0 l.k))
