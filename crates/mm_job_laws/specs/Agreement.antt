-- When given rows and a tree have the same elements and the same row space.
use Rattle.std.specs.Prelude.{◌≡◌, ◌↔◌, ℕ, List, length, map, true, All}
use Rattle.std.specs.List.{IsDistinct}
use Rattle.std.specs.Str.{bytes_eq}
use Rattle.mm_field.specs.declared.Field.{Field}
use Rattle.mm_field.specs.Vectors.{AreVectors, SameRowSpace}
use Rattle.mm_logic.specs.Tree.{IsValid}
use Rattle.mm_present.specs.Comparing.{Named, compared, in_order, present_rows}
use Rattle.mm_present.specs.declared.comparison.Verdict.TheVariants as verdict
use Rattle.mm_tree.specs.NamedTree.{Tree, shape, element_names, is_one_of}

-- each of some names is among others
abbrev pub AreAmong : (names others : List (List ℕ)) → Type 0
AreAmong names others = All (λ name. is_one_of name others ≡ true) names

-- Given rows agree with a tree where each given name is an element of the tree, each element is given, and, columns matched by
-- name, each given row is a combination of the rows of the tree's matrix, and each of these a combination of the given rows. (Two
-- matrices have the same row space exactly where row operations take one to the other, zero rows apart.)
pub record Agrees (f : Field) (given : Named) (tree : Tree) : Type 0 where
  pub are_elements : AreAmong given.names (element_names tree)
  pub are_given : AreAmong (element_names tree) given.names
  pub same_space :
      SameRowSpace f (length (element_names tree)) (map (in_order given.names (element_names tree)) given.rows) (present_rows f tree)

-- Given rows with a digit for each of their names, the names all different, and a tree with a valid shape and different elements
-- are compared as the same exactly where they agree.
abbrev pub SameExactlyWhereTheyAgree : Type 0
SameExactlyWhereTheyAgree =
    (f : Field) (given : Named) (tree : Tree) → IsValid f (shape tree) → IsDistinct bytes_eq (element_names tree)
    → IsDistinct bytes_eq given.names → AreVectors f (length given.names) given.rows
    → (compared f given tree ≡ verdict.Same) ↔ Agrees f given tree
