-- Steps of elimination: rows in reduced form, what is left of a vector without its part along them, and a row that is new to them.
use Rattle.std.specs.Prelude.{ℕ, suc, ◌≡◌, ◌<◌, ◌≤◌, true, List, [], ◌∷◌, ◌++◌, take, length, slice_index, All}
use Rattle.mm_field.specs.declared.Field.{Field}
use Rattle.mm_field.specs.Vectors.{zeros, vector_sum, IsVector, AreVectors, InSpan, SameRowSpace}
use Rattle.mm_linear.specs.Coordinates.{is_pivot}
use Rattle.mm_linear.specs.ReducedEchelon.{Leads, Clear}
use Rattle.mm_matrix.specs.MatrixValue.{MatrixValue}

-- rows of n digits in reduced echelon form, and their leads: the places of their first digits other than 0
pub record AreReduced (f : Field) (n : ℕ) (rows : List (List ℕ)) (leads : List ℕ) : Type 0 where
  pub each : AreVectors f n rows
  pub leads_are : Leads n 0 rows leads
  pub clear : Clear rows leads

-- the rest is the vector plus a combination of the rows, and has 0 at each of their leads
pub record IsResidue (f : Field) (n : ℕ) (rows : List (List ℕ)) (leads : List ℕ) (v rest : List ℕ) : Type 0 where
  pub vector : IsVector f n rest
  pub part : List ℕ
  pub inside : InSpan f n rows part
  pub sum : vector_sum f v part ≡ rest
  pub zero : All (λ k. slice_index rest k ≡ 0) leads

-- the rest is the vector plus a combination of the rows of a matrix, and has 0 at each of their pivot columns
pub record IsResidueBy (m : MatrixValue) (v rest : List ℕ) : Type 0 where
  pub vector : IsVector m.f m.cols rest
  pub part : List ℕ
  pub inside : InSpan m.f m.cols m.rows part
  pub sum : vector_sum m.f v part ≡ rest
  pub zero : (k : ℕ) → k < m.cols → is_pivot m.f m.rows k ≡ true → slice_index rest k ≡ 0

-- w leads at p with a 1, and has 0 at each of the leads
pub record IsNew (f : Field) (n p : ℕ) (w : List ℕ) (leads : List ℕ) : Type 0 where
  pub vector : IsVector f n w
  pub inside : p < n
  pub lead : take (suc p) w ≡ zeros p ++ (1 ∷ [])
  pub zero : All (λ k. slice_index w k ≡ 0) leads

-- the new row adds to the rows what v adds
pub record AddsAs (f : Field) (n p : ℕ) (w : List ℕ) (rows : List (List ℕ)) (leads v : List ℕ) : Type 0 where
  pub new : IsNew f n p w leads
  pub span : SameRowSpace f n (v ∷ rows) (w ∷ rows)

-- the first `place` leads come before p, and the next one after it
pub record IsPlaceOf (p : ℕ) (leads : List ℕ) (place : ℕ) : Type 0 where
  pub within : place ≤ length leads
  pub before : (k : ℕ) → k < place → slice_index leads k < p
  pub next : place < length leads → p < slice_index leads place
