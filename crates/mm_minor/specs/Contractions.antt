-- Any set may be contracted for a minor: an independent set does as well, so that none is missed.
use Rattle.std.specs.Prelude.{◌≡◌, ◌≢◌, ◌<◌, ◌+◌, ◌↔◌, ℕ, Bool, false, List, length, map, All, slice_index, slice_index_or}
use Rattle.std.specs.List.{items_where_true}
use Rattle.mm_field.specs.declared.Field.{Field}
use Rattle.mm_field.specs.Vectors.{zeros, combination, IsVector, InSpan, AreIndependent}
use Rattle.mm_logic.specs.Tree.{Tree, size, boundary, IsValid}
use Rattle.mm_logic.specs.PresentMatrix.{internal, column_of, chosen}
use Rattle.mm_matrix.specs.MatrixValue.{MatrixValue}
use Rattle.mm_minor.specs.MinorFormula.{all_columns}
use Rattle.mm_minor.specs.Minors.{HasMinor}

-- Elements are independent where the set D is contracted: only all-zero coefficients combine their columns to a vector of the span of
-- D's columns. (The contraction is the matroid of the quotient by this span: Oxley, Matroid Theory, section 3.2.)
abbrev pub IsIndependentOver : Field → Tree → List Bool → List ℕ → Type 0
IsIndependentOver f T D ys =
    (cs : List ℕ) → IsVector f (length ys) cs
    → InSpan f (boundary T + internal T) (chosen f T D) (combination f (boundary T + internal T) cs (map (column_of f T) ys))
    → cs ≡ zeros (length ys)

-- Where the set D is contracted, the different elements xs outside D, one for each column of the matrix, are its matroid.
pub record IsMinorOver (f : Field) (T : Tree) (n : MatrixValue) (D : List Bool) (xs : List ℕ) : Type 0 where
  pub is_set : length D ≡ size T
  pub count : length xs ≡ n.cols
  pub are_elements : All (λ x. x < size T) xs
  pub outside : All (λ x. slice_index_or D x false ≡ false) xs
  pub different : (i j : ℕ) → i < j → j < n.cols → slice_index xs i ≢ slice_index xs j
  pub alike :
      (I : List Bool) → length I ≡ n.cols
      → IsIndependentOver f T D (items_where_true I xs) ↔ AreIndependent n.f (length n.rows) (items_where_true I (all_columns n))

-- A matroid has a minor by an independent set that is contracted exactly where it has it by any set that is contracted.
abbrev pub AnySetMayBeContracted : Type 0
AnySetMayBeContracted =
    (f : Field) (T : Tree) (n : MatrixValue) → IsValid f T
    → ((D : List Bool) × (xs : List ℕ) × IsMinorOver f T n D xs) ↔ HasMinor f T n
