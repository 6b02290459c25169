-- The vectors that two spans have in common, and a list that is extended to the span of further rows.
use Rattle.std.specs.Prelude.{ℕ, ◌&&◌, List, [], ◌∷◌, ◌++◌, if◌then◌else◌}
use Rattle.mm_field.specs.declared.Field.{Field}
use Rattle.mm_linear.specs.Decide.{is_in_span}
use Rattle.mm_linear.specs.Subspaces.{subspace}

-- The reduced echelon basis of the vectors that are in both spans.
unfoldable pub meet : Field → ℕ → List (List ℕ) → List (List ℕ) → List (List ℕ)
meet f n A B = subspace f n (λ v. is_in_span f n A v && is_in_span f n B v)

-- A list with those of further rows, in order, that are not in the span of the rows already in it.
abbrev pub extended : Field → ℕ → List (List ℕ) → List (List ℕ) → List (List ℕ)
extended f n list [] = list
extended f n list (v ∷ vs) = extended f n (if is_in_span f n list v then list else list ++ v ∷ []) vs
