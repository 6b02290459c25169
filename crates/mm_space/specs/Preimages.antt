-- What is found of a space by its preimage under a matrix.
use Rattle.std.specs.Prelude.{ℕ, ◌-◌, ◌≡◌, ◌↔◌, List, [], ◌++◌, map, take, slice_index_or}
use Rattle.std.specs.List.{range_with_len}
use Rattle.mm_field.specs.declared.Field.{Field}
use Rattle.mm_field.specs.Vectors.{zeros, times_matrix, IsVector, AreVectors, InSpan}
use Rattle.mm_linear.specs.Padded.{padded}
use Rattle.mm_linear.specs.Eliminate.{residue}
use Rattle.mm_linear.specs.Coordinates.{unit}
use Rattle.mm_linear.specs.ReducedEchelon.{reduced_basis}
use Rattle.mm_linear.specs.Subspaces.{head_of_span, preimage}
use Rattle.mm_space.specs.SpaceValue.{SpaceValue, IsIn}
use Rattle.mm_space.specs.KeyValue.{KeyValue}

-- the key is the subspace of all b of F^t such that b times g is in the space
pub record IsPreimage (s : SpaceValue) (g : List (List ℕ)) (t : ℕ) (key : KeyValue) : Type 0 where
  pub field : key.f ≡ s.f
  pub length : key.t ≡ t
  pub each : AreVectors s.f t key.rows
  pub reduced : reduced_basis s.f t key.rows ≡ key.rows
  pub all : (b : List ℕ) → IsVector s.f t b → InSpan s.f t key.rows b ↔ IsIn s (times_matrix s.f s.r g b)
  pub rows : key.rows ≡ preimage s.f t s.r g s.rows

-- the key is the subspace of all b of F^t such that b followed by zeros is in the space
pub record IsHead (s : SpaceValue) (t : ℕ) (key : KeyValue) : Type 0 where
  pub field : key.f ≡ s.f
  pub length : key.t ≡ t
  pub each : AreVectors s.f t key.rows
  pub reduced : reduced_basis s.f t key.rows ≡ key.rows
  pub all : (b : List ℕ) → IsVector s.f t b → InSpan s.f t key.rows b ↔ IsIn s (b ++ zeros (s.r - t))
  pub rows : key.rows ≡ head_of_span s.f t (s.r - t) s.rows

-- row i of g: which one it is, told from the last to the first, and then what is left of it beside the kept rows of a space
abbrev pub tagged_row : Field → ℕ → List (List ℕ) → List (List ℕ) → ℕ → List ℕ
tagged_row f t g kept i = unit 6 (t - 1 - i) ++ take 18 (residue f 24 (padded 24 (slice_index_or g i [])) kept)

abbrev pub tagged_rows : Field → ℕ → List (List ℕ) → List (List ℕ) → List (List ℕ)
tagged_rows f t g kept = map (tagged_row f t g kept) (range_with_len 0 t)
