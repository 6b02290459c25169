-- The minor formula of a matrix with columns 1 to k. It asks for an independent set C and for different elements x1 to xk outside C
-- such that C with some of the elements is independent exactly where the columns of these are independent in the matrix.
use Rattle.std.specs.Prelude.{ℕ, zero, suc, ◌+◌, ◌-◌, ◌/◌, ◌%◌, ◌^◌, ◌==◌, Bool, true, false, List, [], ◌∷◌, ◌++◌, map, flat_map, length, codes}
use Rattle.std.specs.List.{range_with_len, items_where_true}
use Rattle.mm_linear.specs.Decide.{is_independent}
use Rattle.mm_matrix.specs.MatrixValue.{MatrixValue}
use Rattle.mm_matrix.specs.Columns.{column}
use Rattle.mm_formula.specs.Syntax.{Syntax}
use Rattle.mm_formula.specs.Syntax.Syntax.{Ind, Member, SameElem, Not, Bin, Ex}
use Rattle.mm_formula.specs.declared.formula.Connective.TheVariants.{And}

-- the variable of the set that is contracted
abbrev pub contracted : List ℕ
contracted = codes "C"

-- the variable of an element, counted from 0: x1, x2, and so on to x9
abbrev pub element : ℕ → List ℕ
element i = codes "x" ++ ((49 + i) ∷ [])

abbrev pub elements : ℕ → List (List ℕ)
elements k = map element (range_with_len 0 k)

-- the columns of a matrix, from the left
abbrev pub all_columns : MatrixValue → List (List ℕ)
all_columns n = map (column n.rows) (range_with_len 0 n.cols)

-- Subset s of k things, as one test for each: it has the thing at place i, counted from 0, where the digit of 2^i of s is 1.
abbrev pub subset : ℕ → ℕ → List Bool
subset zero s = []
subset (suc k) s = (s % 2 == 1) ∷ subset k (s / 2)

-- C with some of k elements is independent
abbrev pub with_contracted : ℕ → List Bool → Syntax
with_contracted k I = Ind (record { whole = false; vars = contracted ∷ items_where_true I (elements k) })

-- the elements are outside C
abbrev pub outside : ℕ → List Syntax
outside k = map (λ i. Not (Member (element i) contracted)) (range_with_len 0 k)

-- element i is none of those after it
abbrev pub different_from : ℕ → ℕ → List Syntax
different_from k i = map (λ j. Not (SameElem (element i) (element j))) (range_with_len (i + 1) (k - (i + 1)))

-- the elements are different
abbrev pub different : ℕ → List Syntax
different k = flat_map (different_from k) (range_with_len 0 k)

-- the formula or its negation
abbrev pub asserted : Bool → Syntax → Syntax
asserted true F = F
asserted false F = Not F

-- whether the columns of subset s are independent
abbrev pub has_independent : MatrixValue → ℕ → Bool
has_independent n s = is_independent n.f (length n.rows) (items_where_true (subset n.cols s) (all_columns n))

-- C with the elements of subset s is independent, or is dependent, as the columns of the subset are
abbrev pub alike : MatrixValue → ℕ → Syntax
alike n s = asserted (has_independent n s) (with_contracted n.cols (subset n.cols s))

-- so it is for each subset that is not empty
abbrev pub all_alike : MatrixValue → List Syntax
all_alike n = map (alike n) (range_with_len 1 (2 ^ n.cols - 1))

-- a formula and others joined by `and`: each `and` has all before it as its first part
abbrev pub conjunction : Syntax → List Syntax → Syntax
conjunction F [] = F
conjunction F (G ∷ Gs) = conjunction (Bin And F G) Gs

-- the formula holds with something for each of these variables, the first of them outermost
abbrev pub with_some : List (List ℕ) → Syntax → Syntax
with_some [] F = F
with_some (v ∷ vs) F = Ex v (with_some vs F)

-- the conditions on C and the elements
abbrev pub conditions : MatrixValue → Syntax
conditions n = conjunction (with_contracted n.cols []) (outside n.cols ++ different n.cols ++ all_alike n)

-- the minor formula
unfoldable pub minor_formula : MatrixValue → Syntax
minor_formula n = with_some (contracted ∷ elements n.cols) (conditions n)
