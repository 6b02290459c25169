-- The values that the leaf rule and the join rule give at the places of a formula on the way to a type.
use Rattle.std.specs.Prelude.{ℕ, true, false, List, [], ◌∷◌, ◌++◌, map, flat_map}
use Rattle.mm_field.specs.declared.Field.{Field}
use Rattle.mm_logic.specs.Formula.{Formula}
use Rattle.mm_logic.specs.Formula.Formula.{Const, Ind, Member, SameElem, Sub, SameSet, Not, Bin, ExSet, AllSet, ExElem, AllElem}
use Rattle.mm_logic.specs.Value.{Value, members, first, second}
use Rattle.mm_logic.specs.Marks.{Marks, mark}
use Rattle.mm_logic.specs.Operator.{Op}
use Rattle.mm_logic.specs.LeafRule.{elem_type, void_type}
use Rattle.mm_logic.specs.JoinRule.{join_type}

-- what a quantifier asks of its part at an element: the marks without slot k, and with it
abbrev pub both_marks : ℕ → Marks → List Marks
both_marks k m = mark k false m ∷ mark k true m ∷ []

-- At an element with the vector: node by node in reading order, the values that the leaf rule gives for the marks ms of the whole
-- formula and for those that the quantifiers ask of their parts.
abbrev pub elem_values : Field → Formula → List ℕ → List Marks → List (List Value)
elem_values f (Const b) vec ms = map (elem_type f (Const b) vec) ms ∷ []
elem_values f (Ind t) vec ms = map (elem_type f (Ind t) vec) ms ∷ []
elem_values f (Member x a) vec ms = map (elem_type f (Member x a) vec) ms ∷ []
elem_values f (SameElem x y) vec ms = map (elem_type f (SameElem x y) vec) ms ∷ []
elem_values f (Sub a b) vec ms = map (elem_type f (Sub a b) vec) ms ∷ []
elem_values f (SameSet a b) vec ms = map (elem_type f (SameSet a b) vec) ms ∷ []
elem_values f (Not F) vec ms = [] ∷ elem_values f F vec ms
elem_values f (Bin o F G) vec ms = map (elem_type f (Bin o F G) vec) ms ∷ (elem_values f F vec ms ++ elem_values f G vec ms)
elem_values f (ExSet k F) vec ms = map (elem_type f (ExSet k F) vec) ms ∷ elem_values f F vec (flat_map (both_marks k) ms)
elem_values f (AllSet k F) vec ms = map (elem_type f (AllSet k F) vec) ms ∷ elem_values f F vec (flat_map (both_marks k) ms)
elem_values f (ExElem k F) vec ms = map (elem_type f (ExElem k F) vec) ms ∷ elem_values f F vec (flat_map (both_marks k) ms)
elem_values f (AllElem k F) vec ms = map (elem_type f (AllElem k F) vec) ms ∷ elem_values f F vec (flat_map (both_marks k) ms)

-- The same at a leaf without an element.
abbrev pub void_values : Field → Formula → ℕ → List (List Value)
void_values f (Const b) t = (void_type f (Const b) t ∷ []) ∷ []
void_values f (Ind u) t = (void_type f (Ind u) t ∷ []) ∷ []
void_values f (Member x a) t = (void_type f (Member x a) t ∷ []) ∷ []
void_values f (SameElem x y) t = (void_type f (SameElem x y) t ∷ []) ∷ []
void_values f (Sub a b) t = (void_type f (Sub a b) t ∷ []) ∷ []
void_values f (SameSet a b) t = (void_type f (SameSet a b) t ∷ []) ∷ []
void_values f (Not F) t = [] ∷ void_values f F t
void_values f (Bin o F G) t = (void_type f (Bin o F G) t ∷ []) ∷ (void_values f F t ++ void_values f G t)
void_values f (ExSet k F) t = (void_type f (ExSet k F) t ∷ []) ∷ void_values f F t
void_values f (AllSet k F) t = (void_type f (AllSet k F) t ∷ []) ∷ void_values f F t
void_values f (ExElem k F) t = (void_type f (ExElem k F) t ∷ []) ∷ void_values f F t
void_values f (AllElem k F) t = (void_type f (AllElem k F) t ∷ []) ∷ void_values f F t

-- the join of a pair of values
abbrev pub joined_pair : Field → Formula → Op → Value × Value → Value
joined_pair f F op p = join_type f F op p.0 p.1

-- each of vs with each of ws
abbrev pub pairs : List Value → List Value → List (Value × Value)
pairs vs ws = flat_map (λ v. map (λ w. (v, w)) ws) vs

abbrev pub first_pair : Value × Value → Value × Value
first_pair p = (first p.0, first p.1)

abbrev pub second_pair : Value × Value → Value × Value
second_pair p = (second p.0, second p.1)

-- what a set quantifier asks of its part at a join: each left member with each right member
abbrev pub member_pairs : Value × Value → List (Value × Value)
member_pairs p = pairs (members p.0) (members p.1)

-- what an element quantifier asks: the unassigned parts, each left member with the right unassigned part, and the left unassigned
-- part with each right member
abbrev pub elem_pairs : Value × Value → List (Value × Value)
elem_pairs p =
    (first p.0, first p.1)
    ∷ (map (λ v. (v, first p.1)) (members (second p.0)) ++ map (λ w. (first p.0, w)) (members (second p.1)))

-- At a join by op: node by node, the values that the join rule gives for the pairs ps of the whole formula and for those that are
-- asked of its parts.
abbrev pub join_values : Field → Formula → Op → List (Value × Value) → List (List Value)
join_values f (Const b) op ps = map (joined_pair f (Const b) op) ps ∷ []
join_values f (Ind t) op ps = map (joined_pair f (Ind t) op) ps ∷ []
join_values f (Member x a) op ps = map (joined_pair f (Member x a) op) ps ∷ []
join_values f (SameElem x y) op ps = map (joined_pair f (SameElem x y) op) ps ∷ []
join_values f (Sub a b) op ps = map (joined_pair f (Sub a b) op) ps ∷ []
join_values f (SameSet a b) op ps = map (joined_pair f (SameSet a b) op) ps ∷ []
join_values f (Not F) op ps = [] ∷ join_values f F op ps
join_values f (Bin o F G) op ps =
    map (joined_pair f (Bin o F G) op) ps ∷ (join_values f F op (map first_pair ps) ++ join_values f G op (map second_pair ps))
join_values f (ExSet k F) op ps = map (joined_pair f (ExSet k F) op) ps ∷ join_values f F op (flat_map member_pairs ps)
join_values f (AllSet k F) op ps = map (joined_pair f (AllSet k F) op) ps ∷ join_values f F op (flat_map member_pairs ps)
join_values f (ExElem k F) op ps = map (joined_pair f (ExElem k F) op) ps ∷ join_values f F op (flat_map elem_pairs ps)
join_values f (AllElem k F) op ps = map (joined_pair f (AllElem k F) op) ps ∷ join_values f F op (flat_map elem_pairs ps)
