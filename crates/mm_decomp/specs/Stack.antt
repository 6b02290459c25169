-- The trees and forms of the shapes that are not joined yet: between the code and the definitions.
--
-- The leaves are numbered from 0 in the order of the steps, and hs and ms have a vector and a column for each of them. A shape that
-- begins at leaf p stands on the vectors and columns from p on.
use Rattle.std.specs.Prelude.{ℕ, ◌+◌, ◌≡◌, ◌≤◌, List, [], ◌∷◌, ◌++◌, take, drop, length, slice_index_or}
use Rattle.mm_field.specs.declared.Field.{Field}
use Rattle.mm_linear.specs.ReducedEchelon.{reduced_basis, IsReducedBasis}
use Rattle.mm_tree.specs.NamedTree as named
use Rattle.mm_tree.specs.NamedTree.{Tree}
use Rattle.mm_decomp.specs.BuiltTree.{built_operator, first_digit, join_name}
use Rattle.mm_decomp.specs.Forms.{HasSizes, IsFormOf, products}
use Rattle.mm_decomp.specs.Shapes.{Shape, joins}
use Rattle.mm_decomp.specs.Shapes.Shape.{Leaf, Join}
use Rattle.mm_decomp.specs.declared.form.Form.{Form}

-- The vectors h of k digits and the columns m of g digits of all leaves.
pub record LeafColumns : Type 0 where
  pub f : Field
  pub k : ℕ
  pub g : ℕ
  pub hs : List (List ℕ)
  pub ms : List (List ℕ)

-- How many leaves a shape has.
unfoldable pub leaves : Shape → ℕ
leaves (Leaf name weight) = 1
leaves (Join left right) = leaves left + leaves right

abbrev pub part : ℕ → Shape → List (List ℕ) → List (List ℕ)
part p shape vectors = take (leaves shape) (drop p vectors)

-- The space of a shape that begins at leaf p, as it is found.
abbrev pub found_space : LeafColumns → ℕ → Shape → List (List ℕ)
found_space c p (Leaf name weight) = reduced_basis c.f c.g (slice_index_or c.ms p [] ∷ [])
found_space c p (Join left right) =
    reduced_basis c.f c.g (products c.f c.k c.g (part p (Join left right) c.hs) (part p (Join left right) c.ms))

-- The tree that is made for it, where n joins came before its steps.
unfoldable pub made_tree : LeafColumns → ℕ → ℕ → Shape → Tree
made_tree c n p (Leaf name weight) = named.Tree.Elem name (first_digit (slice_index_or c.ms p [])) weight
made_tree c n p (Join left right) =
    named.Tree.Join (join_name (n + joins left + joins right + 1))
    (built_operator c.f c.g (found_space c p (Join left right)) (found_space c p left) (found_space c (p + leaves left) right))
    (made_tree c n p left)
    (made_tree c (n + joins left) (p + leaves left) right)

-- The boundaries of its nodes, in the order of the steps.
unfoldable pub found_boundaries : LeafColumns → ℕ → Shape → List ℕ
found_boundaries c p (Leaf name weight) = length (found_space c p (Leaf name weight)) ∷ []
found_boundaries c p (Join left right) =
    found_boundaries c p left ++ (found_boundaries c (p + leaves left) right ++ length (found_space c p (Join left right)) ∷ [])

-- ---- shapes that are not joined yet, the last one first

abbrev pub leaves_in : List Shape → ℕ
leaves_in [] = 0
leaves_in (shape ∷ shapes) = leaves_in shapes + leaves shape

abbrev pub joins_in : List Shape → ℕ
joins_in [] = 0
joins_in (shape ∷ shapes) = joins_in shapes + joins shape

abbrev pub made_trees : LeafColumns → List Shape → List Tree
made_trees c [] = []
made_trees c (shape ∷ shapes) = made_tree c (joins_in shapes) (leaves_in shapes) shape ∷ made_trees c shapes

abbrev pub boundaries_in : LeafColumns → List Shape → List ℕ
boundaries_in c [] = []
boundaries_in c (shape ∷ shapes) = boundaries_in c shapes ++ found_boundaries c (leaves_in shapes) shape

-- The form that is kept of a shape.
pub record IsFormAt (c : LeafColumns) (p : ℕ) (shape : Shape) (form : Form) : Type 0 where
  pub sizes : HasSizes c.f c.k c.g form
  pub form_of : IsFormOf c.f c.k c.g (part p shape c.hs) (part p shape c.ms) form
  pub basis : form.basis.rows ≡ found_space c p shape
  pub reduced : IsReducedBasis c.f c.g form.basis.rows
  pub few : length form.basis.rows ≤ 6

abbrev pub AreFormsOf : LeafColumns → List Shape → List Form → Type 0
AreFormsOf c [] [] = Unit {0}
AreFormsOf c (shape ∷ shapes) (form ∷ forms) = IsFormAt c (leaves_in shapes) shape form × AreFormsOf c shapes forms
AreFormsOf c _ _ = ⊥
