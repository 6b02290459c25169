-- Sums, meets and images of spaces, each of which is given by the statement that a vector is in it.
use Rattle.std.specs.Prelude.{ℕ, ◌≡◌, ◌≢◌, List}
use Rattle.mm_field.specs.declared.Field.{Field}
use Rattle.mm_field.specs.Vectors.{zeros, vector_sum, times_matrix, IsVector}

-- z is a vector of the first space plus one of the second
pub record InSum (f : Field) (first second : List ℕ → Type 0) (z : List ℕ) : Type 0 where
  pub one : List ℕ
  pub other : List ℕ
  pub in_first : first one
  pub in_second : second other
  pub sum : vector_sum f one other ≡ z

-- the zero vector alone is in both spaces
abbrev pub MeetTrivially : ℕ → (List ℕ → Type 0) → (List ℕ → Type 0) → Type 0
MeetTrivially n first second = (z : List ℕ) → first z → second z → z ≡ zeros n

-- some vector other than zero is in both spaces
pub record MeetNontrivially (n : ℕ) (first second : List ℕ → Type 0) : Type 0 where
  pub common : List ℕ
  pub in_first : first common
  pub in_second : second common
  pub nonzero : common ≢ zeros n

-- z is b times g for some vector b of a space of F^t
pub record InImage (f : Field) (t r : ℕ) (g : List (List ℕ)) (space : List ℕ → Type 0) (z : List ℕ) : Type 0 where
  pub source : List ℕ
  pub vector : IsVector f t source
  pub inside : space source
  pub gives : times_matrix f r g source ≡ z
