-- Reduced echelon rows as they are written, from the left.
use Rattle.std.specs.Prelude.{◌≡◌, ◌<◌, ◌≤◌, ℕ, zero, suc, ◌==◌, cond, List, [], ◌∷◌, ◌++◌, map, reverse, take, All, slice_index, slice_index_or}
use Rattle.mm_field.specs.declared.Field.{Field}
use Rattle.mm_field.specs.Vectors.{zeros, AreVectors, SameRowSpace}
use Rattle.mm_linear.specs.Echelons.{entry}
use Rattle.mm_linear.specs.Decide.{echelon_of}

-- the rows have their first digits other than 0, which are 1, at these places, which increase and are at least `from`
abbrev pub Leads : ℕ → ℕ → List (List ℕ) → List ℕ → Type 0
Leads n from [] [] = Unit {0}
Leads n from (v ∷ vs) (k ∷ ks) = (from ≤ k) × (k < n) × (take (suc k) v ≡ zeros k ++ (1 ∷ [])) × Leads n (suc k) vs ks
Leads n from _ _ = ⊥

-- each row has 0 at the leads of the rows after it
abbrev pub Clear : List (List ℕ) → List ℕ → Type 0
Clear (v ∷ vs) (k ∷ ks) = All (λ x. slice_index v x ≡ 0) ks × Clear vs ks
Clear _ _ = Unit {0}

-- rows in reduced echelon form from the left, with the same span
pub record IsLeftBasis (f : Field) (n : ℕ) (rows basis : List (List ℕ)) : Type 0 where
  pub each : AreVectors f n basis
  pub span : SameRowSpace f n rows basis
  pub leads : List ℕ
  pub echelon : Leads n 0 basis leads
  pub reduced : Clear basis leads

-- the first j of square rows from the right that are not zero, from the last to the first, each turned round
abbrev pub reversed_rows : List (List ℕ) → ℕ → List (List ℕ)
reversed_rows rows zero = []
reversed_rows rows (suc j) =
    cond (entry rows j j == 0) (reversed_rows rows j) (reverse (slice_index_or rows j []) ∷ reversed_rows rows j)

-- the reduced echelon basis of the span of rows of n digits, from the left
unfoldable pub reduced_basis : Field → ℕ → List (List ℕ) → List (List ℕ)
reduced_basis f n rows = reversed_rows (echelon_of f n (map reverse rows)) n

-- rows of n digits that are the reduced echelon basis of their own span
pub record IsReducedBasis (f : Field) (n : ℕ) (rows : List (List ℕ)) : Type 0 where
  pub each : AreVectors f n rows
  pub own : reduced_basis f n rows ≡ rows
