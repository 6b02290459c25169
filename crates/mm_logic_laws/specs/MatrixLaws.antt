-- The laws of the matrix of a tree: a join gives each column its digits in one way, and pads the internal rows of its children.
use Rattle.std.specs.Prelude.{◌≡◌, ◌<◌, ◌↔◌, ℕ, ◌+◌, suc, true, List, [], ◌∷◌, ◌++◌, map, length, take, drop, slice_index_or}
use Rattle.std.specs.List.{range_with_len}
use Rattle.mm_field.specs.declared.Field.{Field}
use Rattle.mm_field.specs.Vectors.{zeros, combination, times_matrix, IsVector, AreVectors}
use Rattle.mm_linear.specs.Coordinates.{unit, is_pivot}
use Rattle.mm_linear.specs.ReducedEchelon.{reduced_basis}
use Rattle.mm_logic.specs.Operator.{Op, row_length, IsBoundary, IsValidOp}
use Rattle.mm_logic.specs.Tree.{Tree, size, boundary, IsValid}
use Rattle.mm_logic.specs.Tree.Tree.{Join}
use Rattle.mm_logic.specs.PresentMatrix.{internal, columns, column_of, IsColumn, column_digits, row_of, matrix_row, boundary_rows, internal_row}

-- For each vector x of the space of a join there are exactly one b and one y such that x is b times G3 plus the vector that has y
-- at the free columns of G3 and zeros at its pivot columns; and elimination finds them.
abbrev pub ColumnsSplitOnce : Type 0
ColumnsSplitOnce =
    (f : Field) (op : Op) → IsValidOp f op → (x : List ℕ) → IsVector f (row_length op) x
    → IsColumn f op x (take op.t3 (column_digits f op x)) (drop op.t3 (column_digits f op x))
    × ((b y : List ℕ) → IsColumn f op x b y → column_digits f op x ≡ b ++ y)

-- The matrix of a valid tree has one column for each element, each with as many digits as the tree has boundary and internal rows.
abbrev pub MatrixHasItsSize : Type 0
MatrixHasItsSize =
    (f : Field) (T : Tree) → IsValid f T
    → (length (columns f T) ≡ size T) × AreVectors f (boundary T + internal T) (columns f T)

-- u is a column of a join where it has the boundary digits b of x, then the new internal digits y of x, and then the old ones.
pub record IsColumnOfJoin (f : Field) (op : Op) (x old u : List ℕ) : Type 0 where
  pub b : List ℕ
  pub y : List ℕ
  pub column : IsColumn f op x b y
  pub digits : u ≡ b ++ (y ++ old)

-- Column i of a join is made of column i of the left child, or of column i less the left child's of the right child: x is its
-- boundary digits times G1, or times G2, and its internal digits have zeros after them, or before them, for those of the other child.
abbrev pub ColumnsOfJoinArePadded : Type 0
ColumnsOfJoinArePadded =
    (f : Field) (op : Op) (l r : Tree) → IsValid f (Join op l r) → (i : ℕ)
    → (i < size l
    → IsColumnOfJoin f op (times_matrix f (row_length op) op.g1 (take op.t1 (column_of f l i)))
    (drop op.t1 (column_of f l i) ++ zeros (internal r)) (column_of f (Join op l r) i))
    × (i < size r
    → IsColumnOfJoin f op (times_matrix f (row_length op) op.g2 (take op.t2 (column_of f r i)))
    (zeros (internal l) ++ drop op.t2 (column_of f r i)) (column_of f (Join op l r) (size l + i)))

-- the boundary digits and the new internal digits that the rows of a matrix have at a join
abbrev pub digits_at_join : Field → Op → List (List ℕ) → List (List ℕ)
digits_at_join f op g = map (column_digits f op) g

-- Row k of a join, among those of its boundary and of its new internal digits, is at the elements of the left child the combination of
-- the child's boundary rows by the digits k of the rows of G1 at the join, and at those of the right child by the digits k of the rows of G2.
abbrev pub RowsOfJoinAreCombined : Type 0
RowsOfJoinAreCombined =
    (f : Field) (op : Op) (l r : Tree) → IsValid f (Join op l r) → (k : ℕ) → k < row_length op
    → matrix_row f (Join op l r) k
    ≡ combination f (size l) (row_of (digits_at_join f op op.g1) k) (boundary_rows f l)
    ++ combination f (size r) (row_of (digits_at_join f op op.g2) k) (boundary_rows f r)

-- The internal rows of a join, after those of y, are those of the left child with zeros after them, and then those of the right
-- child with zeros before them.
abbrev pub InternalRowsArePadded : Type 0
InternalRowsArePadded =
    (f : Field) (op : Op) (l r : Tree) → IsValid f (Join op l r) → (i : ℕ)
    → (i < internal l → internal_row f (Join op l r) (op.c + i) ≡ internal_row f l i ++ zeros (size r))
    × (i < internal r → internal_row f (Join op l r) (op.c + (internal l + i)) ≡ zeros (size l) ++ internal_row f r i)

-- Where G3 is the first unit vectors, b is the first digits of x and y the others.
abbrev pub FormatOneSplitsDigits : Type 0
FormatOneSplitsDigits =
    (f : Field) (op : Op) → IsValidOp f op → op.g3 ≡ map (unit (row_length op)) (range_with_len 0 op.t3)
    → (x : List ℕ) → IsVector f (row_length op) x → IsColumn f op x (take op.t3 x) (drop op.t3 x)

-- The first unit vectors are a boundary matrix.
abbrev pub FormatOneIsValid : Type 0
FormatOneIsValid =
    (f : Field) (op : Op) → op.g3 ≡ map (unit (row_length op)) (range_with_len 0 op.t3) → IsBoundary f op.t3 (row_length op) op.g3

-- A column k is a pivot column of g exactly where a row of its reduced echelon form has its first digit other than 0, a 1, there.
abbrev pub PivotsAreMeant : Type 0
PivotsAreMeant =
    (f : Field) (n : ℕ) (g : List (List ℕ)) → AreVectors f n g → (k : ℕ) → k < n
    → (is_pivot f g k ≡ true)
    ↔ ((i : ℕ) × (i < length (reduced_basis f n g)) × (take (suc k) (slice_index_or (reduced_basis f n g) i []) ≡ zeros k ++ (1 ∷ [])))
