-- How a `Space` is kept.
use Rattle.std.specs.Prelude.{ℕ, ◌≡◌, ◌≤◌, ◌-◌, ◌++◌, List, length, map, replicate}
use Rattle.mm_field.specs.Vectors.{zeros}
use Rattle.mm_linear.specs.Padded.{padded}
use Rattle.mm_linear.specs.Echelons.{IsEchelon, ZeroFrom}
use Rattle.mm_space.specs.SpaceValue.{corner}
use Rattle.mm_space.specs.declared.space.Space.TheInside.{Inside}

-- rows of r digits as they are kept: zeros after them, and zero rows after the last
abbrev pub kept_rows : List (List ℕ) → List (List ℕ)
kept_rows rows = map (padded 24) rows ++ replicate (24 - length rows) (zeros 24)

-- echelon rows that are zero from place r on
pub record IsKept (s : Inside) : Type 0 where
  pub narrow : s.r ≤ 18
  pub echelon : IsEchelon s.field 24 s.rows
  pub within : ZeroFrom 24 s.r s.rows
  pub back : kept_rows (corner s.r s.rows) ≡ s.rows
