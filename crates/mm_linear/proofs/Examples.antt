-- The definitions compute.
use Rattle.std.proofs.Common.{◌≡◌, true, false, [], ◌∷◌, refl}
use Rattle.mm_field.specs.declared.Field.TheVariants.{Two, Three}
use Rattle.mm_field.specs.Digits.{plus, times, negative, inverse}
use Rattle.mm_linear.specs.Decide.{new_place, echelon_of, is_independent, is_in_span, meets_in_zero}
use Rattle.mm_linear.specs.ReducedEchelon.{reduced_basis}
use Rattle.mm_linear.specs.Coordinates.{is_pivot, free_columns, completed, digit_below, coordinates}
use Rattle.mm_linear.specs.Subspaces.{all_vectors, subspace, head_of_span, preimage}

-- the row 0 1 1 over GF(3): column 1 is its pivot column
free : free_columns Three 3 ((0 ∷ 1 ∷ 1 ∷ []) ∷ []) ≡ 0 ∷ 2 ∷ []
unfolding is_pivot is_in_span new_place echelon_of plus times negative inverse
free = refl

split : coordinates Three 3 (completed Three 3 ((0 ∷ 1 ∷ 1 ∷ []) ∷ [])) (2 ∷ 1 ∷ 0 ∷ []) ≡ 1 ∷ 2 ∷ 2 ∷ []
unfolding coordinates digit_below is_pivot is_in_span new_place echelon_of plus times negative inverse
split = refl

basis : reduced_basis Three 3 ((0 ∷ 2 ∷ 1 ∷ []) ∷ (1 ∷ 1 ∷ 1 ∷ []) ∷ []) ≡ (1 ∷ 0 ∷ 2 ∷ []) ∷ (0 ∷ 1 ∷ 2 ∷ []) ∷ []
unfolding reduced_basis echelon_of new_place plus times negative inverse
basis = refl

all_such : preimage Two 2 3 ((0 ∷ 1 ∷ 1 ∷ []) ∷ (1 ∷ 0 ∷ 1 ∷ []) ∷ []) ((1 ∷ 1 ∷ 0 ∷ []) ∷ []) ≡ (1 ∷ 1 ∷ []) ∷ []
unfolding preimage subspace all_vectors reduced_basis is_in_span echelon_of new_place plus times negative inverse
all_such = refl

-- two rows that are multiples of each other, and two that are not
dependent : is_independent Three 2 ((1 ∷ 2 ∷ []) ∷ (2 ∷ 1 ∷ []) ∷ []) ≡ false
unfolding is_independent echelon_of new_place plus times negative inverse
dependent = refl

independent : is_independent Two 2 ((1 ∷ 1 ∷ []) ∷ (1 ∷ 0 ∷ []) ∷ []) ≡ true
unfolding is_independent echelon_of new_place plus times negative inverse
independent = refl

-- a line meets a plane that it lies in, and no other line
line_in_plane : meets_in_zero Two 3 ((1 ∷ 0 ∷ 1 ∷ []) ∷ []) ((1 ∷ 1 ∷ 0 ∷ []) ∷ (0 ∷ 1 ∷ 1 ∷ []) ∷ []) ≡ false
unfolding meets_in_zero is_in_span echelon_of new_place plus times negative inverse
line_in_plane = refl

two_lines : meets_in_zero Two 3 ((1 ∷ 0 ∷ 1 ∷ []) ∷ []) ((1 ∷ 1 ∷ 0 ∷ []) ∷ []) ≡ true
unfolding meets_in_zero is_in_span echelon_of new_place plus times negative inverse
two_lines = refl

-- the head of the span of 0 1 1 and 1 0 1: only 1 1 0 ends in a zero
head : head_of_span Two 2 1 ((0 ∷ 1 ∷ 1 ∷ []) ∷ (1 ∷ 0 ∷ 1 ∷ []) ∷ []) ≡ (1 ∷ 1 ∷ []) ∷ []
unfolding head_of_span subspace all_vectors reduced_basis is_in_span echelon_of new_place plus times negative inverse
head = refl
