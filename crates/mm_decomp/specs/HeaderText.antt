-- The header of a job for a tree, as it is written: with single blanks, and numbers in shortest decimal form. What such lines say is the
-- reading of a header, which stands in mm_header/specs/Header.
use Rattle.std.specs.Prelude.{ℕ, ◌*◌, List, [], ◌∷◌, ◌++◌, length, map, take, drop, codes}
use Rattle.std.specs.Fmt.{decimal}
use Rattle.std.specs.Int.{div_ceil}
use Rattle.std.specs.List.{range_with_len}
use Rattle.mm_field.specs.Digits.{order}
use Rattle.mm_field.specs.declared.Field.{Field}
use Rattle.mm_logic.specs.Operator.{Op}
use Rattle.mm_matrix.specs.MatrixValue.{MatrixValue}
use Rattle.mm_space.specs.VectorText.{gen_text, vector_text}
use Rattle.mm_tree.specs.NamedTree.{Tree}
use Rattle.mm_tree.specs.NamedTree.Tree.{Elem, Void, Join}
use Rattle.mm_tree.specs.TreeText.{spaced, text_of_lines, tree_text}

-- `field Q`
abbrev pub field_text : Field → List ℕ
field_text f = spaced (codes "field" ∷ decimal (order f) ∷ [])

-- The names of line k, from 0, where each line has 64 names but the last, which has those that are left.
abbrev pub names_of_line : List (List ℕ) → ℕ → List (List ℕ)
names_of_line names k = take 64 (drop (64 * k) names)

-- `elements NAME ..`
abbrev pub elements_text : List (List ℕ) → ℕ → List ℕ
elements_text names k = spaced (codes "elements" ∷ names_of_line names k)

-- How many lines the names take.
abbrev pub name_lines : List (List ℕ) → ℕ
name_lines names = div_ceil (length names) 64

abbrev pub elements_lines : List (List ℕ) → List (List ℕ)
elements_lines names = map (elements_text names) (range_with_len 0 (name_lines names))

-- `row DIGITS`
abbrev pub row_text : List ℕ → List ℕ
row_text row = spaced (codes "row" ∷ vector_text row ∷ [])

-- `op NAME T1 T2 T3 C G1 G2`
abbrev pub operator_text : List ℕ → Op → List ℕ
operator_text name op =
    spaced (codes "op" ∷ name ∷ decimal op.t1 ∷ decimal op.t2 ∷ decimal op.t3 ∷ decimal op.c ∷ gen_text op.g1 ∷ gen_text op.g2 ∷ [])

-- The lines of the operators of a tree's joins, in the order of the lines of the joins.
unfoldable pub operator_lines : Tree → List (List ℕ)
operator_lines (Elem name vec weight) = []
operator_lines (Void name t) = []
operator_lines (Join name op left right) = operator_lines left ++ (operator_lines right ++ operator_text name op ∷ [])

-- The lines before those of the tree.
abbrev pub lines_before_tree : List (List ℕ) → MatrixValue → Tree → List (List ℕ)
lines_before_tree names rows tree =
    codes "mso 1" ∷ field_text rows.f ∷ (elements_lines names ++ (map row_text rows.rows ++ (operator_lines tree ++ codes "tree" ∷ [])))

-- The header of format 1 for these names, these rows and this tree.
unfoldable pub header_text : List (List ℕ) → MatrixValue → Tree → List ℕ
header_text names rows tree = text_of_lines (lines_before_tree names rows tree) ++ tree_text tree
