-- Subspaces by the list of all their vectors.
use Rattle.std.specs.Prelude.{◌≡◌, ◌<◌, ◌+◌, ℕ, suc, List, [], ◌∷◌, ◌++◌, length, take, filter, slice_index, slice_index_or, Contains}
use Rattle.mm_field.specs.declared.Field.{Field}
use Rattle.mm_field.specs.Vectors.{zeros, AreVectors, InSpan}
use Rattle.mm_linear.specs.Decide.{is_in_span}
use Rattle.mm_linear.specs.Subspaces.{all_vectors}

-- The list has each vector that is in its own span: it lists a subspace.
pub record IsSpace (f : Field) (t : ℕ) (vs : List (List ℕ)) : Type 0 where
  pub each : AreVectors f t vs
  pub closed : (v : List ℕ) → InSpan f t vs v → Contains vs v

-- the first digit of a vector other than 0 is a 1 at place k, which is its lead
abbrev pub HasLead : ℕ → List ℕ → Type 0
HasLead k v = take (suc k) v ≡ zeros k ++ (1 ∷ [])

-- v has 0 where u has its lead, if that is after place k
abbrev pub IsClearOf : ℕ → List ℕ → List ℕ → Type 0
IsClearOf k v u = (l : ℕ) → k < l → l < length v → HasLead l u → slice_index v l ≡ 0

-- v is clear of each vector of the list, from place k on
abbrev pub IsClearOfAll : ℕ → List ℕ → List (List ℕ) → Type 0
IsClearOfAll k v vs = (i : ℕ) → i < length vs → IsClearOf k v (slice_index_or vs i [])

-- A row of the reduced echelon basis of a listed space has its lead at place k, and 0 at each later lead of a vector of the space.
pub record IsReducedRow (k : ℕ) (vs : List (List ℕ)) (v : List ℕ) : Type 0 where
  pub lead : HasLead k v
  pub clear : IsClearOfAll k v vs

-- the vector at place i of the list is such a row
abbrev pub IsReducedAt : ℕ → List (List ℕ) → ℕ → Type 0
IsReducedAt k vs i = IsReducedRow k vs (slice_index_or vs i [])

-- the vectors of the boundary that the columns, of t boundary digits and m internal ones, combine to
abbrev pub boundary_vectors : Field → (t m : ℕ) → List (List ℕ) → List (List ℕ)
boundary_vectors f t m cs = filter (λ b. is_in_span f (t + m) cs (b ++ zeros m)) (all_vectors f t)
