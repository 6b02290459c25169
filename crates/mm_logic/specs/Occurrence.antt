-- Which values occur at the places of a formula, and how many cells they take.
use Rattle.std.specs.Prelude.{ℕ, ◌+◌, suc, Bool, not, List, [], ◌∷◌, ◌++◌, map, length, filter, flat_map, sum_by, slice_index_or, Contains}
use Rattle.std.specs.List.{list_any}
use Rattle.std.specs.Ordering.{eq_by_cmp}
use Rattle.mm_logic.specs.Formula.{Formula}
use Rattle.mm_logic.specs.Formula.Formula.{Const, Ind, Member, SameElem, Sub, SameSet, Not, Bin, ExSet, AllSet, ExElem, AllElem}
use Rattle.mm_logic.specs.Value.{Value, members, first, second, value_cmp}

abbrev pub same : Value → Value → Bool
same = eq_by_cmp value_cmp

abbrev pub is_among : List Value → Value → Bool
is_among ws v = list_any (same v) ws

-- each value once, at its first place
abbrev pub distinct : List Value → List Value
distinct [] = []
distinct (v ∷ vs) = v ∷ filter (λ w. not (same v w)) (distinct vs)

-- the different values of vs that are not in K
abbrev pub fresh : List Value → List Value → List Value
fresh K vs = filter (λ v. not (is_among K v)) (distinct vs)

-- the unassigned part and the members of a value of an element quantifier
abbrev pub elem_parts : Value → List Value
elem_parts v = first v ∷ members (second v)

-- The nodes of a formula in reading order, a connective before its parts. The places are the nodes other than `not`, which hands
-- on what it stands on and keeps no values.
abbrev pub nodes : Formula → List Formula
nodes (Const b) = Const b ∷ []
nodes (Ind t) = Ind t ∷ []
nodes (Member x a) = Member x a ∷ []
nodes (SameElem x y) = SameElem x y ∷ []
nodes (Sub a b) = Sub a b ∷ []
nodes (SameSet a b) = SameSet a b ∷ []
nodes (Not F) = Not F ∷ nodes F
nodes (Bin o F G) = Bin o F G ∷ (nodes F ++ nodes G)
nodes (ExSet k F) = ExSet k F ∷ nodes F
nodes (AllSet k F) = AllSet k F ∷ nodes F
nodes (ExElem k F) = ExElem k F ∷ nodes F
nodes (AllElem k F) = AllElem k F ∷ nodes F

-- The values that occur at each node, where vs are types of the whole formula: at the root they are vs, at the part of a connective
-- the parts of the pairs that occur there, at the part of a set quantifier the members of the sets, and at the part of an element
-- quantifier the unassigned parts and the members.
abbrev pub occurring : Formula → List Value → List (List Value)
occurring (Const b) vs = vs ∷ []
occurring (Ind t) vs = vs ∷ []
occurring (Member x a) vs = vs ∷ []
occurring (SameElem x y) vs = vs ∷ []
occurring (Sub a b) vs = vs ∷ []
occurring (SameSet a b) vs = vs ∷ []
occurring (Not F) vs = [] ∷ occurring F vs
occurring (Bin o F G) vs = vs ∷ (occurring F (map first vs) ++ occurring G (map second vs))
occurring (ExSet k F) vs = vs ∷ occurring F (flat_map members vs)
occurring (AllSet k F) vs = vs ∷ occurring F (flat_map members vs)
occurring (ExElem k F) vs = vs ∷ occurring F (flat_map elem_parts vs)
occurring (AllElem k F) vs = vs ∷ occurring F (flat_map elem_parts vs)

-- The cells of one value at a node: one, and one for each member of a value of a quantifier.
abbrev pub own_cells : Formula → Value → ℕ
own_cells (ExSet k F) v = suc (length (members v))
own_cells (AllSet k F) v = suc (length (members v))
own_cells (ExElem k F) v = suc (length (members (second v)))
own_cells (AllElem k F) v = suc (length (members (second v)))
own_cells _ v = 1

-- the cells of a list at each node
abbrev pub list_cells : List Formula → List (List Value) → ℕ
list_cells (F ∷ Fs) (vs ∷ vss) = sum_by (own_cells F) vs + list_cells Fs vss
list_cells _ _ = 0

-- The cells of a list of types: those of the different values that occur at each place.
abbrev pub cells : Formula → List Value → ℕ
cells F vs = list_cells (nodes F) (map distinct (occurring F vs))

-- A value occurs at a node, by the number of the node in reading order, where it is among those that occur there.
abbrev pub Occurs : Formula → List Value → ℕ → Value → Type 0
Occurs F vs node v = Contains (slice_index_or (occurring F vs) node []) v
