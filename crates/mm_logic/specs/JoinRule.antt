-- The join rule: the type of a formula at a join, from its types at the two children; and types made from the leaves upwards.
use Rattle.std.specs.Prelude.{ℕ, List, [], ◌∷◌, ◌++◌, map, flat_map, take, drop}
use Rattle.mm_field.specs.declared.Field.{Field}
use Rattle.mm_logic.specs.Formula.{Formula}
use Rattle.mm_logic.specs.Formula.Formula.{Const, Ind, Member, SameElem, Sub, SameSet, Not, Bin, ExSet, AllSet, ExElem, AllElem}
use Rattle.mm_logic.specs.Value.{Value, members, first, second, collected}
use Rattle.mm_logic.specs.Value.Value.{Pair}
use Rattle.mm_logic.specs.Marks.{Marks, no_marks}
use Rattle.mm_logic.specs.Operator.{Op}
use Rattle.mm_logic.specs.Tree.{Tree, size}
use Rattle.mm_logic.specs.Tree.Tree.{Elem, Void, Join}
use Rattle.mm_logic.specs.BoundarySpaces.{ind_join}
use Rattle.mm_logic.specs.AtomValues.{unit, member_join, same_elem_join, holding_join}
use Rattle.mm_logic.specs.LeafRule.{elem_type, void_type}

-- what j makes of each of vs with each of ws
abbrev pub all_pairs : (Value → Value → Value) → List Value → List Value → List Value
all_pairs j vs ws = flat_map (λ v. map (j v) ws) vs

-- A set at a join is a set on the left with a set on the right: each left member with each right member.
abbrev pub set_join : (Value → Value → Value) → Value → Value → Value
set_join j v w = collected (all_pairs j (members v) (members w))

-- the values below an element quantifier at a join: the element is on the left, or it is on the right
abbrev pub elem_joins : (Value → Value → Value) → Value → Value → List Value
elem_joins j v w = map (λ x. j x (first w)) (members (second v)) ++ map (j (first v)) (members (second w))

-- An element of a join is on one side: where it is on the left the variable is unassigned on the right, and the other way round.
abbrev pub elem_join : (Value → Value → Value) → Value → Value → Value
elem_join j v w = Pair (j (first v) (first w)) (collected (elem_joins j v w))

-- The type at a join.
abbrev pub join_type : Field → Formula → Op → Value → Value → Value
join_type f (Const b) op v w = unit
join_type f (Ind t) op v w = ind_join f op v w
join_type f (Member x a) op v w = member_join v w
join_type f (SameElem x y) op v w = same_elem_join v w
join_type f (Sub a b) op v w = holding_join v w
join_type f (SameSet a b) op v w = holding_join v w
join_type f (Not F) op v w = join_type f F op v w
join_type f (Bin o F G) op v w = Pair (join_type f F op (first v) (first w)) (join_type f G op (second v) (second w))
join_type f (ExSet k F) op v w = set_join (join_type f F op) v w
join_type f (AllSet k F) op v w = set_join (join_type f F op) v w
join_type f (ExElem k F) op v w = elem_join (join_type f F op) v w
join_type f (AllElem k F) op v w = elem_join (join_type f F op) v w

-- A lettered tree is a tree of operators whose leaves have letters: a vector with marks, or a boundary without an element.
pub data Lettered : Type 0 where
  ElemLetter : (vec : List ℕ) → (m : Marks) → Lettered
  VoidLetter : (t : ℕ) → Lettered
  JoinLetter : Op → Lettered → Lettered → Lettered

abbrev pub mark_at_first : List Marks → Marks
mark_at_first [] = no_marks
mark_at_first (m ∷ ms) = m

-- The tree lettered by an assignment: the marks of its elements stand at their leaves.
abbrev pub lettered : Tree → List Marks → Lettered
lettered (Elem vec) ms = ElemLetter vec (mark_at_first ms)
lettered (Void t) ms = VoidLetter t
lettered (Join op l r) ms = JoinLetter op (lettered l (take (size l) ms)) (lettered r (drop (size l) ms))

-- The type that the leaf rule makes at the leaves and the join rule at the joins.
abbrev pub joined : Field → Formula → Lettered → Value
joined f F (ElemLetter vec m) = elem_type f F vec m
joined f F (VoidLetter t) = void_type f F t
joined f F (JoinLetter op l r) = join_type f F op (joined f F l) (joined f F r)
