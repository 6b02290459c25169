-- The boundary spaces of a decomposition of given columns.
use Rattle.std.specs.Prelude.{ℕ, List, [], ◌∷◌, ◌++◌, map, length, nat_lt, Option}
use Rattle.std.specs.List.{position, position_or_len}
use Rattle.std.specs.Str.{bytes_eq}
use Rattle.mm_field.specs.declared.Field.{Field}
use Rattle.mm_linear.specs.ReducedEchelon.{reduced_basis}
use Rattle.mm_matrix.specs.Columns.{column}
use Rattle.mm_decomp.specs.Meets.{meet}
use Rattle.mm_decomp.specs.Shapes.{Shape, names}
use Rattle.mm_decomp.specs.Shapes.Shape.{Leaf, Join}

-- A matrix over f with a name for each of its columns.
pub record Given : Type 0 where
  pub f : Field
  pub names : List (List ℕ)
  pub rows : List (List ℕ)

-- The place of a name among some names, from 0.
abbrev pub place_in : List (List ℕ) → List ℕ → ℕ
place_in names name = position_or_len (bytes_eq name) names

-- The column of a name: its digits in the given rows, from the top.
abbrev pub column_of : Given → List ℕ → List ℕ
column_of given name = column given.rows (place_in given.names name)

-- The boundary space of a node, by its reduced echelon basis: what the span of the columns below it has in common with the span of
-- the columns of all names outside it; at a leaf the span of its column.
abbrev pub space : Given → List (List ℕ) → Shape → List (List ℕ)
space given outside (Leaf name weight) = reduced_basis given.f (length given.rows) (column_of given name ∷ [])
space given outside (Join left right) =
    meet given.f (length given.rows) (map (column_of given) (names left ++ names right)) (map (column_of given) outside)

-- The boundary of each node: the dimension of its space. A node comes after the nodes below it, as in the steps.
unfoldable pub boundaries : Given → List (List ℕ) → Shape → List ℕ
boundaries given outside (Leaf name weight) = length (space given outside (Leaf name weight)) ∷ []
boundaries given outside (Join left right) =
    boundaries given (outside ++ names right) left
    ++ (boundaries given (outside ++ names left) right ++ length (space given outside (Join left right)) ∷ [])

-- The first step, from 0, whose node has a boundary above 6.
abbrev pub first_wide : Given → Shape → Option ℕ
first_wide given shape = position (λ b. nat_lt 6 b) (boundaries given [] shape)
