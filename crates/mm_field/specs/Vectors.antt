-- Vectors over GF(q) as lists of digits: sums, multiples, combinations, span, independence, row space.
use Rattle.std.specs.Prelude.{ℕ, ◌<◌, ◌≡◌, List, [], ◌∷◌, length, replicate, All}
use Rattle.mm_field.specs.declared.Field.{Field}
use Rattle.mm_field.specs.Digits.{order, plus, times}

-- the zero vector of n digits
abbrev pub zeros : ℕ → List ℕ
zeros n = replicate n 0

-- the sum of two vectors, entry by entry, as far as both reach
abbrev pub vector_sum : Field → List ℕ → List ℕ → List ℕ
vector_sum f [] ys = []
vector_sum f (x ∷ xs) [] = []
vector_sum f (x ∷ xs) (y ∷ ys) = plus f x y ∷ vector_sum f xs ys

-- c times a vector, entry by entry
abbrev pub multiple : Field → ℕ → List ℕ → List ℕ
multiple f c [] = []
multiple f c (x ∷ xs) = times f c x ∷ multiple f c xs

-- the combination of rows of n digits: the sum of each row times its coefficient
abbrev pub combination : Field → ℕ → List ℕ → List (List ℕ) → List ℕ
combination f n [] rows = zeros n
combination f n (c ∷ cs) [] = zeros n
combination f n (c ∷ cs) (v ∷ vs) = vector_sum f (multiple f c v) (combination f n cs vs)

-- b times the matrix g, whose rows have r digits
abbrev pub times_matrix : Field → ℕ → List (List ℕ) → List ℕ → List ℕ
times_matrix f r g b = combination f r b g

-- all entries of v are digits of the field
abbrev pub AreDigits : Field → List ℕ → Type 0
AreDigits f v = All (λ d. d < order f) v

-- v is a vector of F^n: n digits of the field
pub record IsVector (f : Field) (n : ℕ) (v : List ℕ) : Type 0 where
  pub len : length v ≡ n
  pub digits : AreDigits f v

-- each row is a vector of F^n
abbrev pub AreVectors : Field → ℕ → List (List ℕ) → Type 0
AreVectors f n rows = All (λ v. IsVector f n v) rows

-- v is in the span of the rows: it is a combination of them
pub record InSpan (f : Field) (n : ℕ) (rows : List (List ℕ)) (v : List ℕ) : Type 0 where
  pub coefficients : List ℕ
  pub each : IsVector f (length rows) coefficients
  pub sum : combination f n coefficients rows ≡ v

-- the rows are independent: only all-zero coefficients combine them to the zero vector
abbrev pub AreIndependent : Field → ℕ → List (List ℕ) → Type 0
AreIndependent f n rows =
    (cs : List ℕ) → IsVector f (length rows) cs → combination f n cs rows ≡ zeros n → cs ≡ zeros (length rows)

-- each row of the first is in the span of the second
abbrev pub IsWithin : Field → ℕ → List (List ℕ) → List (List ℕ) → Type 0
IsWithin f n rows sows = All (λ v. InSpan f n sows v) rows

-- two matrices have the same row space: each row of either is in the span of the other
abbrev pub SameRowSpace : Field → ℕ → List (List ℕ) → List (List ℕ) → Type 0
SameRowSpace f n rows sows = IsWithin f n rows sows × IsWithin f n sows rows
