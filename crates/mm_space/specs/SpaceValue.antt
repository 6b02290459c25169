-- Subspaces of F^r.
use Rattle.std.specs.Prelude.{ℕ, ◌≡◌, ◌↔◌, List, map, take}
use Rattle.mm_field.specs.declared.Field.{Field}
use Rattle.mm_field.specs.Vectors.{times_matrix, InSpan, IsVector, AreVectors, SameRowSpace}

-- a subspace of F^r, by r rows of r digits that span it: the reduced echelon rows, each at the place of its last digit
pub record SpaceValue : Type 0 where
  pub f : Field
  pub r : ℕ
  pub rows : List (List ℕ)

-- v is in the space
abbrev pub IsIn : SpaceValue → List ℕ → Type 0
IsIn s v = InSpan s.f s.r s.rows v

-- the same vectors are in both spaces
abbrev pub HaveSameVectors : SpaceValue → SpaceValue → Type 0
HaveSameVectors s u = (v : List ℕ) → IsVector s.f s.r v → IsIn s v ↔ IsIn u v

-- z is b times g, which has rows of r digits, for some b in the span of the rows
pub record IsImage (f : Field) (t r : ℕ) (rows g : List (List ℕ)) (z : List ℕ) : Type 0 where
  pub source : List ℕ
  pub inside : InSpan f t rows source
  pub gives : times_matrix f r g source ≡ z

-- the space is the span of the vectors in F^r
pub record IsSpanOf (f : Field) (r : ℕ) (vectors : List (List ℕ)) (s : SpaceValue) : Type 0 where
  pub field : s.f ≡ f
  pub length : s.r ≡ r
  pub each : AreVectors f r s.rows
  pub span : SameRowSpace f r vectors s.rows

-- the first r digits of the first r rows
abbrev pub corner : ℕ → List (List ℕ) → List (List ℕ)
corner r rows = map (take r) (take r rows)
