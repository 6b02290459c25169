-- The text that is put after the header of a tree that is built: its first line is the first that can be refused, and the rows and the tree
-- agree.
use Rattle.std.specs.Prelude.{◌≡◌, ◌+◌, ◌≤◌, ◌∷◌, ◌++◌, ℕ, ℤ, nat_abs, List, [], length, All, true, false, Ok}
use Rattle.std.specs.List.{IsDistinct}
use Rattle.std.specs.Str.{bytes_eq}
use Rattle.mm_field.specs.Vectors.{AreVectors}
use Rattle.mm_field.specs.declared.Field.{Field}
use Rattle.mm_header.specs.Header.{Parts, matched, parts}
use Rattle.mm_header.specs.Rules.{job_rules}
use Rattle.mm_lines.specs.Lines.{is_newline, line_of, lines}
use Rattle.mm_tree.specs.NamedTree.{Tree, is_one_of}
use Rattle.mm_tree.specs.ValidTree.{AreNames, most_depth, most_weight}
use Rattle.mm_job_text.specs.HeaderLines.{most_rows}
use Rattle.mm_job_text.specs.Readers.{Read}
use Rattle.mm_decomp.specs.BuildOutput.{build_output, matrix_in}
use Rattle.mm_decomp.specs.BuiltTree.{built}
use Rattle.mm_decomp.specs.DualOutput.{dual_header, empty_text}
use Rattle.mm_decomp.specs.HeaderText.{header_text}
use Rattle.mm_decomp.specs.Shapes.{Shape, depth, most_leaves, names}
use Rattle.mm_decomp.specs.Shapes.Shape.{Leaf, Join}
use Rattle.mm_decomp.specs.Spaces.{Given, boundaries}
use Rattle.mm_decomp.specs.TreeShapes.{element_shape}
use Rattle.mm_decomp_laws.specs.DualLaws.{AreTheSame}
use Rattle.mm_decomp_laws.specs.WrittenHeaders.{lines_after, most_after}

-- The weights of the leaves, from left to right.
unfoldable pub leaf_weights : Shape → List ℤ
leaf_weights (Leaf name weight) = weight ∷ []
leaf_weights (Join left right) = leaf_weights left ++ leaf_weights right

-- At most 4096 rows over at most 4096 different names, and a shape whose leaves are these names, each once, with no boundary above 6: what
-- `build` makes a header of. Duals are narrow by `DualsAreNarrow`.
pub record IsBuildable (given : Given) (shape : Shape) : Type 0 where
  pub named : AreNames given.names
  pub different : IsDistinct bytes_eq given.names
  pub few : length given.names ≤ most_leaves
  pub rows : AreVectors given.f (length given.names) given.rows
  pub few_rows : length given.rows ≤ most_rows
  pub leaves : All (λ name. is_one_of name given.names ≡ true) (names shape)
  pub all : All (λ name. is_one_of name (names shape) ≡ true) given.names
  pub leaves_differ : IsDistinct bytes_eq (names shape)
  pub shallow : depth shape ≤ most_depth
  pub light : All (λ weight. nat_abs weight ≤ most_weight) (leaf_weights shape)
  pub narrow : All (λ t. t ≤ 6) (boundaries given [] shape)

-- No line of the header is refused before a text that comes after it, nor do the rows and the tree of the header differ: what can be
-- refused is a line of that text.
pub record ReachesQuery (header rest : List ℕ) : Type 0 where
  pub given : Parts
  pub lines_before : ℕ
  pub reads : parts job_rules (lines (header ++ rest)) ≡ Read given (lines_after lines_before rest)
  pub agrees : matched given ≡ Ok tt

-- A query line is one line. It decides after the header that `build` makes of a text, after that of the dual of a matrix and its tree, after
-- that of each tree that is built, and after that of a tree without elements.
pub record QueriesDecide : Type 0 where
  pub one_line :
      (n : ℕ) (query : List ℕ) → All (λ b. is_newline b ≡ false) query → lines_after n (query ++ 10 ∷ []) ≡ line_of (n + 1) query
  pub after_build : (text header rest : List ℕ) → build_output text ≡ Ok header → length rest ≤ most_after → ReachesQuery header rest
  pub after_dual :
      (given : Given) (tree : Tree) (rest : List ℕ) → AreTheSame given tree → AreNames given.names → length given.names ≤ most_leaves
      → length rest ≤ most_after → ReachesQuery (dual_header given (element_shape tree)) rest
  pub after_built :
      (given : Given) (shape : Shape) (rest : List ℕ) → IsBuildable given shape → length rest ≤ most_after
      → ReachesQuery (header_text given.names (matrix_in given) (built given 0 [] shape)) rest
  pub after_empty : (f : Field) (rest : List ℕ) → length rest ≤ most_after → ReachesQuery (empty_text f) rest
