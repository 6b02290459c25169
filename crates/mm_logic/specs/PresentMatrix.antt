-- The matrix of a tree, by its columns, and independence in it.
use Rattle.std.specs.Prelude.{◌≡◌, ℕ, ◌+◌, Bool, List, [], ◌∷◌, ◌++◌, map, take, drop, slice_index, slice_index_or}
use Rattle.std.specs.List.{items_where_true, range_with_len}
use Rattle.mm_field.specs.declared.Field.{Field}
use Rattle.mm_field.specs.Vectors.{zeros, vector_sum, combination, times_matrix, IsVector, AreIndependent}
use Rattle.mm_linear.specs.Decide.{is_independent}
use Rattle.mm_linear.specs.Coordinates.{unit, free_columns, completed, coordinates, in_coordinates}
use Rattle.mm_logic.specs.Operator.{Op, row_length}
use Rattle.mm_logic.specs.Tree.{Tree, boundary}
use Rattle.mm_logic.specs.Tree.Tree.{Elem, Void, Join}

-- How many internal rows the matrix of a tree has: those that no element outside the tree meets.
abbrev pub internal : Tree → ℕ
internal (Elem vec) = 0
internal (Void t) = 0
internal (Join op l r) = op.c + (internal l + internal r)

-- A vector x of the space of a join is b times G3 plus the vector that has y at the free columns of G3 and zeros at its pivot
-- columns: b are its boundary digits, y its new internal digits.
pub record IsColumn (f : Field) (op : Op) (x b y : List ℕ) : Type 0 where
  pub boundary_digits : IsVector f op.t3 b
  pub internal_digits : IsVector f op.c y
  pub sum :
      x ≡ vector_sum f (times_matrix f (row_length op) op.g3 b)
      (combination f (row_length op) y (map (unit (row_length op)) (free_columns f (row_length op) op.g3)))

-- b and then y, by elimination: the coordinates of x in the basis of the rows of G3 and the unit vectors at its free columns
abbrev pub column_digits : Field → Op → List ℕ → List ℕ
column_digits f op x = coordinates f (row_length op) (completed f (row_length op) op.g3) x

-- A column of a child has its t boundary digits and then its internal ones. Here it is as a column of the join before its boundary
-- digits are those of the join: they are a vector of the space of the join, and the other child has m internal rows.
abbrev pub left_column : Field → ℕ → ℕ → List (List ℕ) → ℕ → List ℕ → List ℕ
left_column f t r g m v = times_matrix f r g (take t v) ++ (drop t v ++ zeros m)

abbrev pub right_column : Field → ℕ → ℕ → List (List ℕ) → ℕ → List ℕ → List ℕ
right_column f t r g m v = times_matrix f r g (take t v) ++ (zeros m ++ drop t v)

-- The columns of the matrix of a tree, one for each element in leaf order, each with its boundary digits and then its internal
-- digits. The one column of an element's leaf is its vector. At a join the boundary digits of a column of the left child times G1,
-- or of the right child times G2, are a vector x of the space of the join; the column then has b and y of x, its internal digits
-- as a column of the left child, and those as a column of the right child, with zeros for the other child.
abbrev pub columns : Field → Tree → List (List ℕ)
columns f (Elem vec) = vec ∷ []
columns f (Void t) = []
columns f (Join op l r) =
    map (in_coordinates f (row_length op) (completed f (row_length op) op.g3))
    (map (left_column f op.t1 (row_length op) op.g1 (internal r)) (columns f l)
    ++ map (right_column f op.t2 (row_length op) op.g2 (internal l)) (columns f r))

-- Column i of the matrix of a tree.
abbrev pub column_of : Field → Tree → ℕ → List ℕ
column_of f T i = slice_index_or (columns f T) i []

-- Row i of some columns: digit i of each.
abbrev pub row_of : List (List ℕ) → ℕ → List ℕ
row_of cs i = map (λ u. slice_index u i) cs

-- The first n rows of some columns.
abbrev pub first_rows : ℕ → List (List ℕ) → List (List ℕ)
first_rows n cs = map (row_of cs) (range_with_len 0 n)

-- Row i of the matrix of a tree: the boundary rows come first.
abbrev pub matrix_row : Field → Tree → ℕ → List ℕ
matrix_row f T i = row_of (columns f T) i

-- The boundary rows of the matrix of a tree.
abbrev pub boundary_rows : Field → Tree → List (List ℕ)
boundary_rows f T = first_rows (boundary T) (columns f T)

-- Internal row i of the matrix of a tree.
abbrev pub internal_row : Field → Tree → ℕ → List ℕ
internal_row f T i = matrix_row f T (boundary T + i)

-- The columns of a set of elements, which is given by one test for each element in leaf order.
abbrev pub chosen : Field → Tree → List Bool → List (List ℕ)
chosen f T X = items_where_true X (columns f T)

-- A set of elements is independent where only all-zero coefficients combine its columns to the zero column. (The vector matroid
-- of the matrix: Oxley, Matroid Theory, section 1.1.)
abbrev pub IsIndependent : Field → Tree → List Bool → Type 0
IsIndependent f T X = AreIndependent f (boundary T + internal T) (chosen f T X)

-- The same, decided by elimination.
abbrev pub is_independent_set : Field → Tree → List Bool → Bool
is_independent_set f T X = is_independent f (boundary T + internal T) (chosen f T X)
