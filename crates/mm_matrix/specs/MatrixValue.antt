-- A matrix as contracts see it: a field, a number of columns, and rows of that many digits.
use Rattle.std.specs.Prelude.{ℕ, List}
use Rattle.mm_field.specs.declared.Field.{Field}
use Rattle.mm_field.specs.Vectors.{AreVectors, SameRowSpace}
use Rattle.mm_linear.specs.ReducedEchelon.{reduced_basis}

pub record MatrixValue : Type 0 where
  pub f : Field
  pub cols : ℕ
  pub rows : List (List ℕ)

-- each row has a digit of the field in each column
abbrev pub IsMatrix : MatrixValue → Type 0
IsMatrix m = AreVectors m.f m.cols m.rows

-- The reduced echelon rows of the row space.
abbrev pub reduced : MatrixValue → MatrixValue
reduced m = record { f = m.f; cols = m.cols; rows = reduced_basis m.f m.cols m.rows }

-- The second matrix has the row space of the first.
pub record HasRowSpace (m space : MatrixValue) : Type 0 where
  pub is_matrix : IsMatrix m
  pub same : SameRowSpace m.f m.cols m.rows space.rows
