-- Subspaces by a test of their vectors.
use Rattle.std.specs.Prelude.{ℕ, zero, suc, ◌+◌, Bool, List, [], ◌∷◌, ◌++◌, map, filter, flat_map}
use Rattle.std.specs.List.{range_with_len}
use Rattle.mm_field.specs.declared.Field.{Field}
use Rattle.mm_field.specs.Digits.{order}
use Rattle.mm_field.specs.Vectors.{zeros, times_matrix}
use Rattle.mm_linear.specs.Decide.{is_in_span}
use Rattle.mm_linear.specs.ReducedEchelon.{reduced_basis}

-- all vectors of n digits
unfoldable pub all_vectors : Field → ℕ → List (List ℕ)
all_vectors f zero = [] ∷ []
all_vectors f (suc n) = flat_map (λ d. map (λ v. d ∷ v) (all_vectors f n)) (range_with_len 0 (order f))

-- the reduced echelon basis of the subspace of all vectors of t digits that pass a test
unfoldable pub subspace : Field → ℕ → (List ℕ → Bool) → List (List ℕ)
subspace f t test = reduced_basis f t (filter test (all_vectors f t))

-- the head of a span: all b of t digits such that b followed by m zeros is in the span of the rows
unfoldable pub head_of_span : Field → ℕ → ℕ → List (List ℕ) → List (List ℕ)
head_of_span f t m rows = subspace f t (λ b. is_in_span f (t + m) rows (b ++ zeros m))

-- all b of t digits such that b times g is in the span of the rows
unfoldable pub preimage : Field → ℕ → ℕ → List (List ℕ) → List (List ℕ) → List (List ℕ)
preimage f t r g rows = subspace f t (λ b. is_in_span f r rows (times_matrix f r g b))
