-- Pivot columns and free columns of independent rows, and the coordinates of a vector by them.
use Rattle.std.specs.Prelude.{ℕ, zero, suc, ◌-◌, ◌≡◌, cond, Bool, not, List, [], ◌∷◌, ◌++◌, map, take, drop, length, filter}
use Rattle.std.specs.List.{range_with_len}
use Rattle.mm_field.specs.declared.Field.{Field}
use Rattle.mm_field.specs.Digits.{order, negative}
use Rattle.mm_field.specs.Vectors.{zeros, vector_sum, multiple, AreVectors, IsVector, InSpan, AreIndependent}
use Rattle.mm_linear.specs.Decide.{is_in_span}

-- the vector of r digits with 1 at place k and 0 elsewhere
abbrev pub unit : ℕ → ℕ → List ℕ
unit r k = zeros k ++ (1 ∷ zeros (r - suc k))

-- whether k is a pivot column: some combination of the rows has its first digit other than 0, a 1, at place k
unfoldable pub is_pivot : Field → List (List ℕ) → ℕ → Bool
is_pivot f g k = is_in_span f (suc k) (map (take (suc k)) g) (zeros k ++ (1 ∷ []))

-- the other columns of r, in increasing order
abbrev pub free_columns : Field → ℕ → List (List ℕ) → List ℕ
free_columns f r g = filter (λ k. not (is_pivot f g k)) (range_with_len 0 r)

-- the rows, and then the unit vectors at their free columns: b times the rows plus the vector that has y at the free columns
-- is the combination of these rows with coefficients b and then y
abbrev pub completed : Field → ℕ → List (List ℕ) → List (List ℕ)
completed f r g = g ++ map (unit r) (free_columns f r g)

-- independent rows of n digits of which every vector is a combination
pub record IsBasis (f : Field) (n : ℕ) (rows : List (List ℕ)) : Type 0 where
  pub count : length rows ≡ n
  pub each : AreVectors f n rows
  pub independent : AreIndependent f n rows
  pub all : (x : List ℕ) → IsVector f n x → InSpan f n rows x

-- x less c times v
abbrev pub minus_multiple : Field → List ℕ → ℕ → List ℕ → List ℕ
minus_multiple f x c v = vector_sum f x (multiple f (negative f c) v)

-- the last digit c below k for which x less c times v is in the span of the rows, or 0
unfoldable pub digit_below : Field → ℕ → List (List ℕ) → List ℕ → List ℕ → ℕ → ℕ
digit_below f n rows v x zero = 0
digit_below f n rows v x (suc k) = cond (is_in_span f n rows (minus_multiple f x k v)) k (digit_below f n rows v x k)

-- coefficients that combine the rows to x, where there are such
unfoldable pub coordinates : Field → ℕ → List (List ℕ) → List ℕ → List ℕ
coordinates f n [] x = []
coordinates f n (v ∷ rows) x =
    digit_below f n rows v x (order f) ∷ coordinates f n rows (minus_multiple f x (digit_below f n rows v x (order f)) v)

-- a column whose first r digits are exchanged for their coordinates
abbrev pub in_coordinates : Field → ℕ → List (List ℕ) → List ℕ → List ℕ
in_coordinates f r rows u = coordinates f r rows (take r u) ++ drop r u
