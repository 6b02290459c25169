-- The matrix of a join with a third boundary, and the type of `ind` at it, by computing.
use Rattle.mm_logic.specs.Formula.Formula.{Const, Ind, Not, ExElem}
use Rattle.mm_logic.specs.StateSize.{state_size}
use Rattle.mm_logic.specs.StateSize.Query.{Decide}
use Rattle.mm_logic.specs.BoundarySpaces.{ind_type, ind_join}
use Rattle.std.proofs.Common.{Some, pos, true, false, ◌≡◌, [], ◌∷◌, refl}
use Rattle.mm_field.specs.declared.Field.TheVariants.{Two, Three, Four, Five}
use Rattle.mm_field.specs.Digits.{plus, times, negative, inverse}
use Rattle.mm_linear.specs.Decide.{new_place, echelon_of, is_independent, is_in_span, meets_in_zero}
use Rattle.mm_linear.specs.ReducedEchelon.{reduced_basis}
use Rattle.mm_linear.specs.Coordinates.{is_pivot, digit_below, coordinates}
use Rattle.mm_linear.specs.Subspaces.{all_vectors, subspace, head_of_span, preimage}
use Rattle.mm_logic.specs.Value.Value.{Dead, Span}
use Rattle.mm_logic.specs.Tree.Tree.{Elem, Void, Join}
use Rattle.mm_logic.specs.JoinRule.{joined, lettered}
use Rattle.mm_logic.specs.Least.{least}
use Rattle.mm_logic.specs.Operator.{Op}
use Rattle.mm_logic.specs.PresentMatrix.{columns}
use Rattle.mm_logic.specs.Tree.{Tree}

abbrev op : Op
op = record { t1 = 1; t2 = 1; t3 = 1; c = 1; g1 = (1 ∷ 0 ∷ []) ∷ []; g2 = (0 ∷ 1 ∷ []) ∷ []; g3 = (1 ∷ 1 ∷ []) ∷ [] }

abbrev tree : Tree
tree = Join op (Elem (1 ∷ [])) (Elem (1 ∷ []))

two_columns : columns Two tree ≡ (1 ∷ 1 ∷ []) ∷ (0 ∷ 1 ∷ []) ∷ []
unfolding coordinates digit_below is_pivot is_in_span new_place echelon_of plus times negative inverse
two_columns = refl

both : ind_type Two tree (true ∷ true ∷ []) ≡ Span 1 ((1 ∷ []) ∷ [])
unfolding coordinates digit_below is_pivot is_in_span new_place echelon_of is_independent head_of_span subspace all_vectors reduced_basis plus times negative inverse
both = refl

one : ind_type Two tree (true ∷ false ∷ []) ≡ Span 1 []
unfolding coordinates digit_below is_pivot is_in_span new_place echelon_of is_independent head_of_span subspace all_vectors reduced_basis plus times negative inverse
one = refl

-- the first boundary of the inner join is the sum of two elements, and a third element closes a circuit with both
abbrev whole : Tree
whole = Join (record { t1 = 1; t2 = 1; t3 = 0; c = 1; g1 = (1 ∷ []) ∷ []; g2 = (1 ∷ []) ∷ []; g3 = [] }) tree (Elem (1 ∷ []))

three_columns : columns Two whole ≡ (1 ∷ 1 ∷ []) ∷ (0 ∷ 1 ∷ []) ∷ (1 ∷ 0 ∷ []) ∷ []
unfolding coordinates digit_below is_pivot is_in_span new_place echelon_of plus times negative inverse
three_columns = refl

lightest_circuit : least Two (Not (Ind (record { whole = false; slots = 0 ∷ [] }))) whole (pos 1 ∷ pos 1 ∷ pos 1 ∷ []) ≡ Some (true ∷ true ∷ true ∷ [])
unfolding coordinates digit_below is_pivot is_in_span new_place echelon_of is_independent plus times negative inverse
lightest_circuit = refl

joined_types : joined Two (Ind (record { whole = true; slots = [] })) (lettered whole ((λ k. false) ∷ (λ k. false) ∷ (λ k. false) ∷ [])) ≡ Dead
unfolding coordinates digit_below is_pivot is_in_span new_place echelon_of is_independent meets_in_zero preimage subspace all_vectors reduced_basis plus times negative inverse
joined_types = refl

-- columns over the other fields, computed apart by trying all b and y

over_four : columns Four (Join (record { t1 = 1; t2 = 1; t3 = 1; c = 2; g1 = (3 ∷ 1 ∷ 2 ∷ []) ∷ []; g2 = (1 ∷ 0 ∷ 2 ∷ []) ∷ []; g3 = (0 ∷ 2 ∷ 3 ∷ []) ∷ [] }) (Join (record { t1 = 1; t2 = 1; t3 = 1; c = 1; g1 = (1 ∷ 2 ∷ []) ∷ []; g2 = (3 ∷ 1 ∷ []) ∷ []; g3 = (2 ∷ 3 ∷ []) ∷ [] }) (Elem (2 ∷ [])) (Elem (1 ∷ []))) (Elem (3 ∷ []))) ≡ (3 ∷ 3 ∷ 0 ∷ 0 ∷ []) ∷ (1 ∷ 1 ∷ 0 ∷ 0 ∷ []) ∷ (0 ∷ 3 ∷ 1 ∷ 0 ∷ []) ∷ []
unfolding coordinates digit_below is_pivot is_in_span new_place echelon_of plus times negative inverse
over_four = refl

over_five : columns Five (Join (record { t1 = 2; t2 = 1; t3 = 2; c = 1; g1 = (0 ∷ 2 ∷ 3 ∷ []) ∷ (1 ∷ 4 ∷ 0 ∷ []) ∷ []; g2 = (2 ∷ 2 ∷ 1 ∷ []) ∷ []; g3 = (0 ∷ 3 ∷ 1 ∷ []) ∷ (0 ∷ 1 ∷ 4 ∷ []) ∷ [] }) (Elem (4 ∷ 3 ∷ [])) (Elem (2 ∷ []))) ≡ (3 ∷ 1 ∷ 3 ∷ []) ∷ (4 ∷ 2 ∷ 4 ∷ []) ∷ []
unfolding coordinates digit_below is_pivot is_in_span new_place echelon_of plus times negative inverse
over_five = refl

over_three : columns Three (Join (record { t1 = 1; t2 = 2; t3 = 2; c = 1; g1 = (1 ∷ 2 ∷ 0 ∷ []) ∷ []; g2 = (0 ∷ 1 ∷ 2 ∷ []) ∷ (2 ∷ 0 ∷ 1 ∷ []) ∷ []; g3 = (1 ∷ 2 ∷ 0 ∷ []) ∷ (0 ∷ 0 ∷ 2 ∷ []) ∷ [] }) (Elem (2 ∷ [])) (Elem (1 ∷ 2 ∷ []))) ≡ (2 ∷ 0 ∷ 0 ∷ []) ∷ (1 ∷ 2 ∷ 2 ∷ []) ∷ []
unfolding coordinates digit_below is_pivot is_in_span new_place echelon_of plus times negative inverse
over_three = refl

-- state sizes found by hand: an element quantifier over one element and over none, and independence at the five nodes of a circuit

size_over_one : state_size Two (Decide (ExElem 0 (Const true))) (Elem (1 ∷ [])) ≡ 4
size_over_one = refl

size_over_none : state_size Two (Decide (ExElem 0 (Const true))) (Void 1) ≡ 3
size_over_none = refl

abbrev circuit : Tree
circuit =
    Join (record { t1 = 2; t2 = 1; t3 = 0; c = 2; g1 = (1 ∷ 0 ∷ []) ∷ (0 ∷ 1 ∷ []) ∷ []; g2 = (1 ∷ 1 ∷ []) ∷ []; g3 = [] })
    (Join (record { t1 = 1; t2 = 1; t3 = 2; c = 0; g1 = (1 ∷ 0 ∷ []) ∷ []; g2 = (0 ∷ 1 ∷ []) ∷ []; g3 = (1 ∷ 0 ∷ []) ∷ (0 ∷ 1 ∷ []) ∷ [] }) (Elem (1 ∷ [])) (Elem (1 ∷ [])))
    (Elem (1 ∷ []))

size_of_circuit : state_size Two (Decide (Ind (record { whole = true; slots = [] }))) circuit ≡ 8
unfolding coordinates digit_below is_pivot is_in_span new_place echelon_of is_independent head_of_span subspace all_vectors reduced_basis plus times negative inverse
size_of_circuit = refl

-- the join rule for two spaces: a line and a line whose images are one line are Dead; lines with other images give the sum's part in G3

abbrev parallel : Op
parallel = record { t1 = 1; t2 = 1; t3 = 1; c = 0; g1 = (1 ∷ []) ∷ []; g2 = (1 ∷ []) ∷ []; g3 = (1 ∷ []) ∷ [] }

same_line : ind_join Two parallel (Span 1 ((1 ∷ []) ∷ [])) (Span 1 ((1 ∷ []) ∷ [])) ≡ Dead
unfolding is_in_span new_place echelon_of meets_in_zero plus times negative inverse
same_line = refl

line_and_zero : ind_join Two parallel (Span 1 ((1 ∷ []) ∷ [])) (Span 1 []) ≡ Span 1 ((1 ∷ []) ∷ [])
unfolding is_in_span new_place echelon_of meets_in_zero preimage subspace all_vectors reduced_basis plus times negative inverse
line_and_zero = refl

sum_of_lines : ind_join Two op (Span 1 ((1 ∷ []) ∷ [])) (Span 1 ((1 ∷ []) ∷ [])) ≡ Span 1 ((1 ∷ []) ∷ [])
unfolding is_in_span new_place echelon_of meets_in_zero preimage subspace all_vectors reduced_basis plus times negative inverse
sum_of_lines = refl

one_line : ind_join Two op (Span 1 ((1 ∷ []) ∷ [])) (Span 1 []) ≡ Span 1 []
unfolding is_in_span new_place echelon_of meets_in_zero preimage subspace all_vectors reduced_basis plus times negative inverse
one_line = refl
