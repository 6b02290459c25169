-- The laws of duals: the rows of the dual's tree, and how wide it is.
use Rattle.std.specs.Prelude.{ℕ, ◌≡◌, ◌≤◌, ◌↔◌, List, [], length, All, Some}
use Rattle.std.specs.List.{IsDistinct}
use Rattle.std.specs.Str.{bytes_eq}
use Rattle.mm_field.specs.declared.Field.{Field}
use Rattle.mm_field.specs.Vectors.{IsVector, AreVectors, InSpan}
use Rattle.mm_matrix.specs.Orthogonal.{IsOrthogonal}
use Rattle.mm_present.specs.Comparing.{compared, present_rows}
use Rattle.mm_present.specs.declared.comparison.Verdict.TheVariants as verdict
use Rattle.mm_tree.specs.NamedTree.{Tree, element_names}
use Rattle.mm_tree.specs.ValidTree.{IsValidTree}
use Rattle.mm_decomp.specs.BuiltTree.{built}
use Rattle.mm_decomp.specs.Duals.{dual_of}
use Rattle.mm_decomp.specs.Shapes.{Shape}
use Rattle.mm_decomp.specs.Spaces.{Given, boundaries}
use Rattle.mm_decomp.specs.TreeShapes.{element_shape}

-- Named rows and a valid tree that are compared as the same.
pub record AreTheSame (given : Given) (tree : Tree) : Type 0 where
  pub valid : IsValidTree given.f tree
  pub different : IsDistinct bytes_eq given.names
  pub rows : AreVectors given.f (length given.names) given.rows
  pub same : compared given.f (record { names = given.names; rows = given.rows }) tree ≡ verdict.Same

-- Two trees have the same elements, in the same order, and the row space of the second one has exactly the rows that are orthogonal to all
-- rows of the first. (The vector matroids of their matrices are dual to each other: Oxley, Matroid Theory, section 2.2.)
pub record AreDual (f : Field) (tree dual : Tree) : Type 0 where
  pub elements : element_names dual ≡ element_names tree
  pub exactly :
      (x : List ℕ) → IsVector f (length (element_names tree)) x
      → InSpan f (length (element_names tree)) (present_rows f dual) x ↔ IsOrthogonal f (present_rows f tree) x

-- The tree that is built for the dual of the rows of a tree, and the shape of the tree, is dual to the tree.
abbrev pub TreesOfDualsAreDual : Type 0
TreesOfDualsAreDual =
    (given : Given) (tree : Tree) (shape : Shape) → AreTheSame given tree → element_shape tree ≡ Some shape
    → AreDual given.f tree (built (dual_of given) 0 [] shape)

-- It has no boundary above 6.
abbrev pub DualsAreNarrow : Type 0
DualsAreNarrow =
    (given : Given) (tree : Tree) (shape : Shape) → AreTheSame given tree → element_shape tree ≡ Some shape
    → All (λ t. t ≤ 6) (boundaries (dual_of given) [] shape)
