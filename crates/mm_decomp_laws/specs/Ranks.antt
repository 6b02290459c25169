-- The boundaries of a decomposition by the ranks of sets of columns.
use Rattle.std.specs.Prelude.{ℕ, ◌≡◌, ◌+◌, ◌-◌, ◌==◌, true, List, [], ◌∷◌, ◌++◌, map, length, All, if◌then◌else◌}
use Rattle.std.specs.List.{list_all}
use Rattle.mm_field.specs.declared.Field.{Field}
use Rattle.mm_field.specs.Vectors.{AreVectors}
use Rattle.mm_linear.specs.ReducedEchelon.{reduced_basis}
use Rattle.mm_tree.specs.NamedTree.{is_one_of}
use Rattle.mm_decomp.specs.Shapes.{Shape, names}
use Rattle.mm_decomp.specs.Shapes.Shape.{Leaf, Join}
use Rattle.mm_decomp.specs.Spaces.{Given, boundaries, column_of}

-- The dimension of the span of some rows of n digits.
abbrev pub rank : Field → ℕ → List (List ℕ) → ℕ
rank f n rows = length (reduced_basis f n rows)

-- The rank of the columns of some names.
abbrev pub rank_of : Given → List (List ℕ) → ℕ
rank_of given some = rank given.f (length given.rows) (map (column_of given) some)

-- How far two sets of columns that are all columns together depend on each other. (The connectivity of the vector matroid of the
-- columns at this separation: Oxley, Matroid Theory, chapter 8.)
abbrev pub connectivity : Given → (all below outside : List (List ℕ)) → ℕ
connectivity given all below outside = rank_of given below + rank_of given outside - rank_of given all

-- 0 for a zero column, and 1 for any other
abbrev pub rank_of_column : List ℕ → ℕ
rank_of_column column = if list_all (λ d. d == 0) column then 0 else 1

-- The connectivity at each join, and the rank of the column at each leaf, in the order of the steps.
unfoldable pub connectivities : Given → (all outside : List (List ℕ)) → Shape → List ℕ
connectivities given all outside (Leaf name weight) = rank_of_column (column_of given name) ∷ []
connectivities given all outside (Join left right) =
    connectivities given all (outside ++ names right) left
    ++ (connectivities given all (outside ++ names left) right ++ connectivity given all (names left ++ names right) outside ∷ [])

-- The rows are over the field and the names, and the leaves of the shape are among the names.
pub record IsOver (given : Given) (shape : Shape) : Type 0 where
  pub rows : AreVectors given.f (length given.names) given.rows
  pub leaves : All (λ name. is_one_of name given.names ≡ true) (names shape)

-- The boundary of each join of a decomposition is the connectivity of the columns below it and those outside; the boundary of a leaf is
-- the rank of its column.
abbrev pub BoundariesAreConnectivities : Type 0
BoundariesAreConnectivities =
    (given : Given) (shape : Shape) → IsOver given shape → boundaries given [] shape ≡ connectivities given (names shape) [] shape
