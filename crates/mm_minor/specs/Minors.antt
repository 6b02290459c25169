-- The minors of the matroid of a tree, and that the minor formula asks for one.
use Rattle.std.specs.Prelude.{◌≡◌, ◌≢◌, ◌<◌, ◌↔◌, ℕ, Bool, true, false, List, [], ◌∷◌, length, All, slice_index, slice_index_or, slice_set}
use Rattle.std.specs.List.{items_where_true}
use Rattle.mm_field.specs.declared.Field.{Field}
use Rattle.mm_field.specs.Vectors.{AreIndependent}
use Rattle.mm_logic.specs.Tree.{Tree, size}
use Rattle.mm_logic.specs.PresentMatrix.{IsIndependent}
use Rattle.mm_logic.specs.Marks.{unmarked}
use Rattle.mm_logic.specs.Meaning.{Holds}
use Rattle.mm_matrix.specs.MatrixValue.{MatrixValue, IsMatrix}
use Rattle.mm_formula.specs.Scope.{slotted}
use Rattle.mm_minor.specs.MinorFormula.{all_columns, minor_formula}

-- a set of elements, as one test for each in leaf order, with some more elements
abbrev pub with_elements : List Bool → List ℕ → List Bool
with_elements C [] = C
with_elements C (x ∷ xs) = slice_set (with_elements C xs) x true

-- The matroid of a tree has the matroid of a matrix as a minor: there are an independent set C and different elements outside C, one
-- for each column of the matrix, such that C with some of the elements is independent exactly where the columns of these are. So the
-- elements are the columns' matroid where C is contracted and all others are deleted. (Oxley, Matroid Theory, section 3.1.)
pub record HasMinor (f : Field) (T : Tree) (n : MatrixValue) : Type 0 where
  pub C : List Bool
  pub xs : List ℕ
  pub is_set : length C ≡ size T
  pub is_independent : IsIndependent f T C
  pub count : length xs ≡ n.cols
  pub are_elements : All (λ x. x < size T) xs
  pub outside : All (λ x. slice_index_or C x false ≡ false) xs
  pub different : (i j : ℕ) → i < j → j < n.cols → slice_index xs i ≢ slice_index xs j
  pub alike :
      (I : List Bool) → length I ≡ n.cols
      → IsIndependent f T (with_elements C (items_where_true I xs))
      ↔ AreIndependent n.f (length n.rows) (items_where_true I (all_columns n))

-- The minor formula of a matrix holds on a tree exactly where the tree's matroid has the matrix's as a minor. The two may be over
-- different fields.
abbrev pub MinorsAreAsked : Type 0
MinorsAreAsked =
    (f : Field) (T : Tree) (n : MatrixValue) → IsMatrix n
    → Holds f (slotted [] (minor_formula n)) T (unmarked (size T)) ↔ HasMinor f T n
