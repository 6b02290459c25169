-- Elimination as a function on lists, for definitions that have to compute.
use Rattle.std.specs.Prelude.{ℕ, zero, suc, ◌==◌, cond, Bool, true, ◌&&◌, ◌||◌, not, Option, Some, None, is_some, is_none, List, [], ◌∷◌, ◌++◌, replicate, slice_index}
use Rattle.mm_field.specs.declared.Field.{Field}
use Rattle.mm_field.specs.Digits.{inverse}
use Rattle.mm_field.specs.Vectors.{zeros, multiple}
use Rattle.mm_linear.specs.Eliminate.{residue, inserted}

-- the last place below k of a digit other than 0
abbrev pub last_place : ℕ → List ℕ → Option ℕ
last_place zero v = None
last_place (suc k) v = cond (slice_index v k == 0) (last_place k v) (Some k)

-- the row that is put in for v at p
abbrev pub row_for : Field → ℕ → ℕ → List ℕ → List (List ℕ) → List ℕ
row_for f n p v rows = multiple f (inverse f (slice_index (residue f n v rows) p)) (residue f n v rows)

abbrev pub put_at : Field → ℕ → List ℕ → List (List ℕ) → Option ℕ → List (List ℕ)
put_at f n v rows None = rows
put_at f n v rows (Some p) = inserted f p (row_for f n p v rows) rows

-- the place at which v is new to the rows
unfoldable pub new_place : Field → ℕ → List ℕ → List (List ℕ) → Option ℕ
new_place f n v rows = last_place n (residue f n v rows)

-- the reduced rows of the span of vectors
unfoldable pub echelon_of : Field → ℕ → List (List ℕ) → List (List ℕ)
echelon_of f n [] = replicate n (zeros n)
echelon_of f n (v ∷ vs) = put_at f n v (echelon_of f n vs) (new_place f n v (echelon_of f n vs))

-- whether vectors are independent
unfoldable pub is_independent : Field → ℕ → List (List ℕ) → Bool
is_independent f n [] = true
is_independent f n (v ∷ vs) = is_independent f n vs && is_some (new_place f n v (echelon_of f n vs))

-- whether v is in the span
unfoldable pub is_in_span : Field → ℕ → List (List ℕ) → List ℕ → Bool
is_in_span f n vs v = is_none (new_place f n v (echelon_of f n vs))

-- whether the spans of A and of the rows meet in zero alone
unfoldable pub meets_in_zero : Field → ℕ → List (List ℕ) → List (List ℕ) → Bool
meets_in_zero f n A [] = true
meets_in_zero f n A (b ∷ S) = meets_in_zero f n A S && (is_in_span f n S b || not (is_in_span f n (S ++ A) b))
