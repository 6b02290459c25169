-- The rows of a join by the boundary rows of its children, and of a node among all elements.
use Rattle.std.specs.Prelude.{ℕ, ◌≡◌, ◌+◌, List, ◌++◌, length, map, take, drop}
use Rattle.std.specs.List.{range_with_len}
use Rattle.mm_field.specs.declared.Field.{Field}
use Rattle.mm_field.specs.Vectors.{zeros, combination, AreVectors}
use Rattle.mm_logic.specs.PresentMatrix.{internal, internal_row, boundary_rows, row_of}
use Rattle.mm_logic.specs.Tree.{Tree, size}
use Rattle.mm_matrix.specs.MatrixValue.{MatrixValue}
use Rattle.mm_ops.specs.OpValue.{OpValue}
use Rattle.mm_logic_laws.specs.MatrixLaws.{digits_at_join}
use Rattle.mm_present.specs.declared.join_rows.Side.{Side}

-- a row with zeros before and after it
abbrev pub widened : ℕ → ℕ → List ℕ → List ℕ
widened before after row = zeros before ++ (row ++ zeros after)

-- a row with other digits from a place on
abbrev pub with_digits : ℕ → List ℕ → List ℕ → List ℕ
with_digits start digits row = take start row ++ (digits ++ drop (start + length digits) row)

-- row k of a join at the elements of a child
abbrev pub side_row : ℕ → Side → List ℕ
side_row k side = combination side.rows.f side.rows.cols (row_of side.digits.now.rows k) side.rows.rows

-- row k of a join
abbrev pub join_row : Side → Side → ℕ → List ℕ
join_row left right k = side_row k left ++ side_row k right

-- the boundary rows of a tree over its elements
abbrev pub boundary_matrix : Field → Tree → MatrixValue
boundary_matrix f T = record { f = f; cols = size T; rows = boundary_rows f T }

-- the internal rows of a tree
unfoldable pub internal_rows : Field → Tree → List (List ℕ)
internal_rows f T = map (internal_row f T) (range_with_len 0 (internal T))

-- the internal rows of a tree among the elements of a larger one
abbrev pub placed_rows : Field → ℕ → ℕ → Tree → List (List ℕ)
placed_rows f before after T = map (widened before after) (internal_rows f T)

-- t rows over f
pub record ArePart (f : Field) (t : ℕ) (m : MatrixValue) : Type 0 where
  pub field : m.f ≡ f
  pub count : length m.rows ≡ t
  pub each : AreVectors f m.cols m.rows

-- The boundary rows of a child of a join by an operator over f, and as many lists of r digits.
pub record IsSide (f : Field) (r : ℕ) (side : Side) : Type 0 where
  pub field : side.rows.f ≡ f
  pub digits_field : side.digits.now.f ≡ f
  pub width : side.digits.now.cols ≡ r
  pub count : length side.digits.now.rows ≡ length side.rows.rows
  pub each : AreVectors f side.rows.cols side.rows.rows

-- row k of a join of children with these boundary rows
abbrev pub joined_row : OpValue → MatrixValue → MatrixValue → ℕ → List ℕ
joined_row op left right k =
    combination op.f left.cols (row_of (digits_at_join op.f op.op op.op.g1) k) left.rows
    ++ combination op.f right.cols (row_of (digits_at_join op.f op.op op.op.g2) k) right.rows
