-- What the rows of a node are, and what a call for them needs and answers.
use Rattle.std.specs.Prelude.{◌≡◌, ◌<◌, ◌≤◌, ◌+◌, ℕ, List, [], length, Option, Some, None, Result, Ok, Err}
use Rattle.mm_logic.specs.Formula.{Formula}
use Rattle.mm_logic.specs.Operator.{Op}
use Rattle.mm_logic.specs.Value.{Value}
use Rattle.mm_logic.specs.JoinRule.{join_type}
use Rattle.mm_logic.specs.Occurrence.{occurring, distinct}
use Rattle.mm_logic.specs.Growth.{missing_cells, AllGrown}
use Rattle.mm_tree.specs.NamedTree.{Tree}
use Rattle.mm_tree.specs.NamedTree.Tree.{Elem, Void, Join}
use Rattle.mm_nodes.specs.Demands.{Frame}
use Rattle.mm_nodes.specs.declared.keeps.KeepFault.{KeepFault}
use Rattle.mm_nodes.specs.declared.keeps.KeepFault.TheVariants.{Full, NoMemory}
use Rattle.mm_least.specs.Transitions.{TransitionValue, IsKnown, IsTableOf}
use Rattle.mm_least.specs.NodeRowsValue.{NodeValue}
use Rattle.mm_least.specs.declared.row.Row.{Row}
use Rattle.mm_least.specs.declared.row.Origin.TheVariants.{Out}
use Rattle.mm_least.specs.EmptySets.{ComesAt, ComesFromBoth}
use Rattle.mm_least.specs.Rows.{shown}
use Rattle.mm_least.specs.Candidates.{put_all, held, typed, types_of, leaf_candidates, pairs_of}
use Rattle.mm_least.specs.Passes.{AreWithin, AreOperands, AreLight}

-- the name of the element of a leaf
abbrev pub element_name : Tree → Option (List ℕ)
element_name (Elem name vec weight) = Some name
element_name (Void name t) = None
element_name (Join name op l r) = None

-- the tree is a leaf
abbrev pub IsLeaf : Tree → Type 0
IsLeaf (Elem name vec weight) = Unit {0}
IsLeaf (Void name t) = Unit {0}
IsLeaf (Join name op l r) = ⊥

-- The rows are the best of what a leaf offers, one for each type.
pub record IsLeafRows (fr : Frame) (T : Tree) (n : NodeValue) : Type 0 where
  pub leaf : IsLeaf T
  pub name : n.name ≡ element_name T
  pub within : AreWithin fr.F fr.lists (shown n.rows)
  pub rows : held fr.F fr.lists n.rows ≡ put_all (leaf_candidates fr.f fr.F T) []
  pub nothing : ComesAt n.rows Out n.nothing

-- The rows are the best of what a join offers: each row of the left child with each of the right one; and what is known is of its operator.
pub record IsJoinRows (fr : Frame) (op : Op) (a b n : NodeValue) : Type 0 where
  pub left_within : AreWithin fr.F fr.lists (shown a.rows)
  pub right_within : AreWithin fr.F fr.lists (shown b.rows)
  pub within : AreWithin fr.F fr.lists (shown n.rows)
  pub rows : held fr.F fr.lists n.rows ≡ put_all (pairs_of (join_type fr.f fr.F op) (typed fr.F fr.lists (shown a.rows)) 0 (typed fr.F fr.lists (shown b.rows))) []
  pub known : IsKnown fr op n.known
  pub nothing : ComesFromBoth a.nothing b.nothing n.rows n.nothing

-- what is known, if anything, is of the operator
abbrev pub KnowsJoins : Frame → Op → NodeValue → Type 0
KnowsJoins fr op n = IsKnown fr op n.known

-- the types of rows
abbrev pub row_types : Frame → NodeValue → List Value
row_types fr n = types_of (held fr.F fr.lists n.rows)

-- The rows can be joined at a boundary of t digits: their types can, and their weights are those of sets in a tree.
pub record CanBeJoined (fr : Frame) (t : ℕ) (n : NodeValue) : Type 0 where
  pub operands : AreOperands fr.F fr.f t fr.lists (shown n.rows)
  pub light : AreLight (shown n.rows)

-- The rows were made for types vs within the room.
pub record MadeRows (F : Formula) (olds nows : List (List Value)) (Is : NodeValue → Type 0) (vs : List Value) (room : ℕ) (n : NodeValue) : Type 0 where
  pub is : Is n
  pub grown : AllGrown olds nows (occurring F vs)
  pub fits : missing_cells F olds vs + length n.rows ≤ room

-- What a call for rows answers: the rows, where the missing cells with the rows are within the room; else Full exactly where they exceed
-- it, or want of memory.
abbrev pub MakesRows : Formula → (olds nows : List (List Value)) → (NodeValue → Type 0) → List Value → ℕ → Result NodeValue KeepFault → Type 0
MakesRows F olds nows Is vs room (Ok n) = MadeRows F olds nows Is vs room n
MakesRows F olds nows Is vs room (Err e) = e ≡ Full → room < missing_cells F olds vs + length (distinct vs)

-- The node of these rows, which knows at most the table of the places of these numbers, or want of memory.
abbrev pub IsNodeOf : (rows left right : List Row) → (nothing_left nothing_right : Option ℕ) → (ids table : List ℕ) → Result NodeValue KeepFault → Type 0
IsNodeOf rows left right nothing_left nothing_right ids table (Ok n) =
    (n.rows ≡ rows) × IsTableOf left right ids table n.known × ComesFromBoth nothing_left nothing_right rows n.nothing
IsNodeOf rows left right nothing_left nothing_right ids table (Err e) = e ≡ NoMemory

-- The node of these rows, which knows a transition, where they are within the room; Full only where they exceed it.
abbrev pub IsNodeAgain : List Row → TransitionValue → (nothing_left nothing_right : Option ℕ) → ℕ → Result NodeValue KeepFault → Type 0
IsNodeAgain rows t nothing_left nothing_right room (Ok n) =
    (n.rows ≡ rows) × (n.known ≡ Some t) × (length rows ≤ room) × ComesFromBoth nothing_left nothing_right rows n.nothing
IsNodeAgain rows t nothing_left nothing_right room (Err e) = e ≡ Full → room < length rows
