-- The dual of a matrix: the rows that are orthogonal to its rows.
use Rattle.std.specs.Prelude.{ℕ, ◌==◌, List, length}
use Rattle.std.specs.List.{list_all}
use Rattle.mm_field.specs.declared.Field.{Field}
use Rattle.mm_linear.specs.Subspaces.{subspace}
use Rattle.mm_matrix.specs.Orthogonal.{dot}
use Rattle.mm_decomp.specs.Spaces.{Given}

-- The reduced echelon basis of all vectors of n digits whose sum of products with each of the rows is zero.
unfoldable pub orthogonal_rows : Field → ℕ → List (List ℕ) → List (List ℕ)
orthogonal_rows f n rows = subspace f n (λ x. list_all (λ v. dot f v x == 0) rows)

-- The columns of the dual matroid, with the given names.
abbrev pub dual_of : Given → Given
dual_of given = record given { rows = orthogonal_rows given.f (length given.names) given.rows }
