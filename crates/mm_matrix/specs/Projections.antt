-- Projecting along reduced rows onto the vectors that are orthogonal to them.
use Rattle.std.specs.Prelude.{ℕ, cond, List, [], ◌∷◌, map, drop}
use Rattle.mm_field.specs.declared.Field.{Field}
use Rattle.mm_field.specs.Digits.{negative}
use Rattle.mm_field.specs.Vectors.{vector_sum, combination}
use Rattle.mm_linear.specs.Coordinates.{unit, is_pivot, free_columns}
use Rattle.mm_matrix.specs.Orthogonal.{dot}

-- The unit vectors at some places.
abbrev pub units : ℕ → List ℕ → List (List ℕ)
units n places = map (unit n) places

-- How much is added to a vector at the lead of each row, so that it is orthogonal to the row.
abbrev pub shares : Field → List (List ℕ) → List ℕ → List ℕ
shares f rows x = map (λ v. negative f (dot f v x)) rows

-- The vector with its shares added at the leads of the rows.
abbrev pub projected : Field → ℕ → List (List ℕ) → List ℕ → List ℕ → List ℕ
projected f n rows leads x = vector_sum f x (combination f n (shares f rows x) (units n leads))

-- What is still to be added to the unit vector at column j, from the i-th row on.
abbrev pub left : Field → ℕ → List (List ℕ) → List ℕ → ℕ → ℕ → List ℕ
left f n rows leads j i = combination f n (drop i (shares f rows (unit n j))) (drop i (units n leads))

-- The projection of the unit vector at column j.
abbrev pub kernel_vector : Field → ℕ → List (List ℕ) → List ℕ → ℕ → List ℕ
kernel_vector f n rows leads j = projected f n rows leads (unit n j)

-- The same where column j is no lead, and else nothing.
abbrev pub kernel_vector_at : Field → ℕ → List (List ℕ) → List ℕ → ℕ → List (List ℕ)
kernel_vector_at f n rows leads j = cond (is_pivot f rows j) [] (kernel_vector f n rows leads j ∷ [])

-- Those at the columns that are no leads.
abbrev pub kernel_vectors : Field → ℕ → List (List ℕ) → List ℕ → List (List ℕ)
kernel_vectors f n rows leads = map (kernel_vector f n rows leads) (free_columns f n rows)
