-- When a tree that is written can be read back.
use Rattle.std.specs.Prelude.{◌≡◌, ◌+◌, ◌≤◌, ℕ, List, [], length, Some}
use Rattle.mm_field.specs.declared.Field.{Field}
use Rattle.mm_lines.specs.Lines.{lines}
use Rattle.mm_lines.specs.declared.line.Line.{Line}
use Rattle.mm_ops.specs.Tables.{OperatorList, op_named}
use Rattle.mm_tree.specs.Building.{AreOver}
use Rattle.mm_tree.specs.NamedTree.{Tree, leaf_names, nodes}
use Rattle.mm_tree.specs.NamedTree.Tree.{Elem, Void, Join}
use Rattle.mm_tree.specs.TreeText.{tree_text}
use Rattle.mm_tree.specs.ValidTree.{IsValidTree}
use Rattle.mm_job_text.specs.Readers.{Read}
use Rattle.mm_job_text.specs.TreeLines.{tree_lines}

-- The operators over f hold each join's one under its name.
unfoldable pub HoldsJoins : Field → OperatorList → Tree → Type 0
HoldsJoins f ops (Elem name vec weight) = Unit {0}
HoldsJoins f ops (Void name t) = Unit {0}
HoldsJoins f ops (Join name op left right) = (op_named name ops ≡ Some (record { f = f; op = op })) × HoldsJoins f ops left × HoldsJoins f ops right

-- The lines that are written of a valid tree with at most so many leaves are read as the same tree, up to the last of them, over
-- operators that hold each join's one under its name.
abbrev pub WrittenTreesAreReadBack : Type 0
WrittenTreesAreReadBack =
    (most : ℕ) (f : Field) (ops : OperatorList) (tree : Tree) → IsValidTree f tree → length (leaf_names tree) ≤ most → HoldsJoins f ops tree
    → tree_lines most f ops [] (lines (tree_text tree)) ≡ Read (tree, nodes tree + 1) []

-- Where a tree was read over operators of a field, these hold each join's one under its name.
abbrev pub ReadTreesHaveTheirOperators : Type 0
ReadTreesHaveTheirOperators =
    (most : ℕ) (f : Field) (ops : OperatorList) (rs rest : List Line) (tree : Tree) (n : ℕ) → AreOver f ops
    → tree_lines most f ops [] rs ≡ Read (tree, n) rest → HoldsJoins f ops tree
