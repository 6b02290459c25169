-- What rows over the elements of a tree make of given columns over the same elements.
use Rattle.std.specs.Prelude.{ℕ, ◌+◌, ◌≡◌, ◌==◌, ◌&&◌, Bool, List, ◌++◌, map, take, drop, IfOk, OnOk}
use Rattle.std.specs.List.{list_all, range_with_len}
use Rattle.std.specs.declared.result.Result.{Result}
use Rattle.mm_base.specs.declared.failure.NoMemory.{NoMemory}
use Rattle.mm_field.specs.declared.Field.{Field}
use Rattle.mm_field.specs.Vectors.{times_matrix}
use Rattle.mm_logic.specs.Operator.{row_length}
use Rattle.mm_logic.specs.PresentMatrix.{boundary_rows}
use Rattle.mm_logic.specs.Tree.{Tree, size}
use Rattle.mm_logic_laws.specs.MatrixLaws.{digits_at_join}
use Rattle.mm_matrix.specs.Columns.{column}
use Rattle.mm_matrix.specs.MatrixValue.{MatrixValue}
use Rattle.mm_ops.specs.OpValue.{OpValue}
use Rattle.mm_present.specs.Joining.{internal_rows}

-- the combination of given columns of d digits by each of some rows
abbrev pub images : Field → ℕ → List (List ℕ) → List (List ℕ) → List (List ℕ)
images f d given rows = map (times_matrix f d given) rows

-- whether all digits of all rows are zero
abbrev pub are_zero : List (List ℕ) → Bool
are_zero rows = list_all (λ row. list_all (λ d. d == 0) row) rows

-- the images of the first rows of a join, from those of the boundary rows of its children
unfoldable pub joined_images : OpValue → ℕ → (left right : List (List ℕ)) → List (List ℕ)
joined_images op d left right =
    images op.f d (left ++ right)
    (map (column (digits_at_join op.f op.op op.op.g1 ++ digits_at_join op.f op.op op.op.g2)) (range_with_len 0 (row_length op.op)))

-- The outcome of a walk over a tree whose elements have the given columns from place `next` on.
abbrev pub ImagesOf :
    Field → Tree → (columns : MatrixValue) → (next after : ℕ) → (before zero : Bool) → Result MatrixValue NoMemory → Type 0
ImagesOf f T columns next after before zero result =
    OnOk result (after ≡ next + size T)
    × IfOk result (λ m. (m ≡ record {
      f = f;
      cols = columns.cols;
      rows = images f columns.cols (take (size T) (drop next columns.rows)) (boundary_rows f T);
    }) × (zero ≡ (before && are_zero (images f columns.cols (take (size T) (drop next columns.rows)) (internal_rows f T)))))
