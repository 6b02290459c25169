-- The trees that the program holds, as the trees of the definitions.
use Rattle.std.specs.Prelude.{ℕ, ◌≤◌, List, ◌++◌, All, length, map, take, drop}
use Rattle.std.specs.declared.vec.Vec.{Vec}
use Rattle.mm_field.specs.declared.Field.{Field}
use Rattle.mm_field.specs.Vectors.{zeros, times_matrix, AreDigits}
use Rattle.mm_linear.specs.Coordinates.{coordinates, completed, in_coordinates}
use Rattle.mm_logic.specs.PresentMatrix.{left_column, right_column}
use Rattle.mm_logic.specs.Operator as operator
use Rattle.mm_logic.specs.Tree as tree
use Rattle.mm_reference_meaning.specs.Rows.{rows_of}
use Rattle.mm_reference_meaning.specs.declared.tree.Op.{Op}
use Rattle.mm_reference_meaning.specs.declared.tree.Tree.{Tree, Elem, Void, Join'}

-- the operator
abbrev pub op_of : Op → operator.Op
op_of op =
    record { t1 = op.t1; t2 = op.t2; t3 = op.t3; c = op.c; g1 = rows_of op.g1.items; g2 = rows_of op.g2.items; g3 = rows_of op.g3.items }

-- the tree
abbrev pub tree_of : Tree → tree.Tree
tree_of (Elem v) = tree.Tree.Elem v.items
tree_of (Void t) = tree.Tree.Void t
tree_of (Join' op p l q r) = tree.Tree.Join (op_of op) (tree_of l) (tree_of r)

-- a column of a child as a column of the join: b and y, and then its internal digits with zeros before and after them
abbrev pub joined_column : Field → ℕ → List (List ℕ) → List (List ℕ) → (t before after : ℕ) → List ℕ → List ℕ
joined_column f r basis g t before after v =
    coordinates f r basis (times_matrix f r g (take t v)) ++ (zeros before ++ (drop t v ++ zeros after))

-- the columns of a join with m1 and m2 internal rows below it, from those of its children, as the matrix of a tree has them
abbrev pub joined_columns : Field → operator.Op → (m1 m2 : ℕ) → List (List ℕ) → List (List ℕ) → List (List ℕ)
joined_columns f op m1 m2 ls rs =
    map (in_coordinates f (operator.row_length op) (completed f (operator.row_length op) op.g3))
    (map (left_column f op.t1 (operator.row_length op) op.g1 m2) ls ++ map (right_column f op.t2 (operator.row_length op) op.g2 m1) rs)

-- columns of a child, each of t boundary digits and internal ones
abbrev pub AreChildColumns : Field → ℕ → List (List ℕ) → Type 0
AreChildColumns f t columns = All (λ v. (t ≤ length v) × AreDigits f v) columns

-- the columns of a child as columns of the join, for rows that the program holds
abbrev pub joined_all : {A B C : Type 0} → Field → List (Vec ℕ A) → List (Vec ℕ B) → (t before after : ℕ) → List (Vec ℕ C) →
    List (List ℕ)
joined_all f basis g t before after columns =
    map (joined_column f (length basis) (rows_of basis) (rows_of g) t before after) (rows_of columns)

-- the columns of a join, for rows that the program holds
abbrev pub columns_of_join : {A B : Type 0} → Field → Op → (m1 m2 : ℕ) → List (Vec ℕ A) → List (Vec ℕ B) → List (List ℕ)
columns_of_join f op m1 m2 ls rs = joined_columns f (op_of op) m1 m2 (rows_of ls) (rows_of rs)
