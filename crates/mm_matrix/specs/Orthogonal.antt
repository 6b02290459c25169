-- Rows that are orthogonal to the rows of a matrix.
use Rattle.std.specs.Prelude.{◌≡◌, ◌↔◌, ◌+◌, ℕ, List, [], ◌∷◌, length, All}
use Rattle.mm_field.specs.declared.Field.{Field}
use Rattle.mm_field.specs.Digits.{plus, times}
use Rattle.mm_field.specs.Vectors.{IsVector, InSpan, AreIndependent}
use Rattle.mm_linear.specs.ReducedEchelon.{reduced_basis}
use Rattle.mm_matrix.specs.MatrixValue.{MatrixValue}

-- The sum of the products of two vectors, entry by entry.
abbrev pub dot : Field → List ℕ → List ℕ → ℕ
dot f [] ys = 0
dot f (x ∷ xs) [] = 0
dot f (x ∷ xs) (y ∷ ys) = plus f (times f x y) (dot f xs ys)

-- The sum of products with each of the rows is zero.
abbrev pub IsOrthogonal : Field → List (List ℕ) → List ℕ → Type 0
IsOrthogonal f rows x = All (λ v. dot f v x ≡ 0) rows

-- The rows of the second matrix are the reduced echelon basis of all vectors that are orthogonal to the rows of the first; there
-- are as many as columns beyond the rank of the first.
pub record IsOrthogonalBasis (m basis : MatrixValue) : Type 0 where
  pub field : basis.f ≡ m.f
  pub cols : basis.cols ≡ m.cols
  pub reduced : basis.rows ≡ reduced_basis m.f m.cols basis.rows
  pub exactly : (x : List ℕ) → IsVector m.f m.cols x → InSpan m.f m.cols basis.rows x ↔ IsOrthogonal m.f m.rows x
  pub count : length basis.rows + length (reduced_basis m.f m.cols m.rows) ≡ m.cols

-- The rows of the second matrix are independent, they span all vectors that are orthogonal to the rows of the first, and there are
-- as many as columns beyond these.
pub record IsNullOf (m null : MatrixValue) : Type 0 where
  pub field : null.f ≡ m.f
  pub cols : null.cols ≡ m.cols
  pub independent : AreIndependent m.f m.cols null.rows
  pub exactly : (x : List ℕ) → IsVector m.f m.cols x → InSpan m.f m.cols null.rows x ↔ IsOrthogonal m.f m.rows x
  pub count : length null.rows + length m.rows ≡ m.cols
