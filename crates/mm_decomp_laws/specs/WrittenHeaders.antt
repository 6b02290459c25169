-- What is read of a header that is written, and of the text that comes after it.
use Rattle.std.specs.Prelude.{◌≡◌, ◌+◌, ◌≤◌, ℕ, List, [], ◌∷◌, ◌++◌, length}
use Rattle.std.specs.List.{IsDistinct, slice_split}
use Rattle.std.specs.Str.{bytes_eq}
use Rattle.mm_field.specs.declared.Field.{Field}
use Rattle.mm_header.specs.Header.{Parts, parts}
use Rattle.mm_header.specs.Rules.{job_rules}
use Rattle.mm_lines.specs.Lines.{is_newline, lines, numbered}
use Rattle.mm_lines.specs.declared.line.Line.{Line}
use Rattle.mm_logic.specs.Operator.{row_length}
use Rattle.mm_matrix.specs.MatrixValue.{IsMatrix, MatrixValue}
use Rattle.mm_ops.specs.Tables.{NamesDiffer, OperatorList}
use Rattle.mm_tree.specs.NamedTree.{Tree, leaf_names, nodes}
use Rattle.mm_tree.specs.NamedTree.Tree.{Elem, Void, Join}
use Rattle.mm_tree.specs.ValidTree.{AreNames, IsValidTree}
use Rattle.mm_job_text.specs.HeaderLines.{most_rows}
use Rattle.mm_job_text.specs.OperatorLines.{first_units}
use Rattle.mm_job_text.specs.Readers.{Read}
use Rattle.mm_job_text.specs.declared.format.Format.TheVariants as format
use Rattle.mm_decomp.specs.HeaderText.{header_text, lines_before_tree}
use Rattle.mm_decomp.specs.Shapes.{most_leaves}

-- The operators of a tree's joins under their names, in the order of the lines of the joins.
unfoldable pub operators_of : Field → Tree → OperatorList
operators_of f (Elem name vec weight) = []
operators_of f (Void name t) = []
operators_of f (Join name op left right) = operators_of f left ++ (operators_of f right ++ (name, record { f = f; op = op }) ∷ [])

-- The third matrix of each operator is the first unit vectors, as in a text of format 1.
unfoldable pub IsOfFormatOne : Tree → Type 0
IsOfFormatOne (Elem name vec weight) = Unit {0}
IsOfFormatOne (Void name t) = Unit {0}
IsOfFormatOne (Join name op left right) = (op.g3 ≡ first_units (row_length op) op.t3) × IsOfFormatOne left × IsOfFormatOne right

-- At most 4096 different names, at most 4096 rows over them, and a valid tree of format 1 with at most 4096 leaves whose joins have
-- different names.
pub record IsReadable (names : List (List ℕ)) (rows : MatrixValue) (tree : Tree) : Type 0 where
  pub named : AreNames names
  pub different : IsDistinct bytes_eq names
  pub few : length names ≤ most_leaves
  pub columns : rows.cols ≡ length names
  pub is_matrix : IsMatrix rows
  pub few_rows : length rows.rows ≤ most_rows
  pub valid : IsValidTree rows.f tree
  pub few_leaves : length (leaf_names tree) ≤ most_leaves
  pub format : IsOfFormatOne tree
  pub operators : NamesDiffer (operators_of rows.f tree)

-- The names, the rows, the operators of the joins, and the tree.
abbrev pub header_parts : List (List ℕ) → MatrixValue → Tree → Parts
header_parts names rows tree =
    (record { version = format.One; f = rows.f; names = names; rows = rows.rows; ops = operators_of rows.f tree }, tree)

-- How many lines a header has.
abbrev pub header_length : List (List ℕ) → MatrixValue → Tree → ℕ
header_length names rows tree = length (lines_before_tree names rows tree) + nodes tree + 1

-- The lines of a text that comes after so many lines.
abbrev pub lines_after : ℕ → List ℕ → List Line
lines_after n text = numbered (n + 1) (slice_split is_newline text)

-- The most bytes that are put after a header here.
abbrev pub most_after : ℕ
most_after = 16777216

-- A header that is written is read as what was written, and up to its last line, whatever comes after it.
abbrev pub WrittenHeadersAreRead : Type 0
WrittenHeadersAreRead =
    (names : List (List ℕ)) (rows : MatrixValue) (tree : Tree) (rest : List ℕ) → IsReadable names rows tree → length rest ≤ most_after
    → parts job_rules (lines (header_text names rows tree ++ rest))
    ≡ Read (header_parts names rows tree) (lines_after (header_length names rows tree) rest)
