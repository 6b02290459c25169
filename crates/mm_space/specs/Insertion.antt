-- Square echelon rows of a space of F^r, and the same with one more vector in their span.
use Rattle.std.specs.Prelude.{ℕ, ◌≤◌, List, ◌∷◌}
use Rattle.mm_field.specs.declared.Field.{Field}
use Rattle.mm_field.specs.Vectors.{SameRowSpace}
use Rattle.mm_linear.specs.Echelons.{IsEchelon, ZeroFrom}

-- echelon rows of n digits that are zero from place r on
pub record IsHeld (f : Field) (n r : ℕ) (rows : List (List ℕ)) : Type 0 where
  pub narrow : r ≤ n
  pub echelon : IsEchelon f n rows
  pub within : ZeroFrom n r rows

-- the new rows are the echelon rows of the span of the old ones with v, and stop at r as those do
pub record IsInserted (f : Field) (n r : ℕ) (v : List ℕ) (rows new : List (List ℕ)) : Type 0 where
  pub echelon : IsEchelon f n new
  pub span : SameRowSpace f n (v ∷ rows) new
  pub within : ZeroFrom n r new
