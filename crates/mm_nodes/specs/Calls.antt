-- What a call that makes an entry needs, and what it answers.
use Rattle.std.specs.Prelude.{◌≡◌, ◌<◌, ◌≤◌, ℕ, ◌+◌, List, length, Option, Some, None, Result, Ok, Err}
use Rattle.mm_field.specs.declared.Field.{Field}
use Rattle.mm_logic.specs.Operator.{Op}
use Rattle.mm_logic.specs.Formula.{Formula}
use Rattle.mm_logic.specs.Value.{Value}
use Rattle.mm_logic.specs.Occurrence.{nodes, occurring, distinct, list_cells, cells}
use Rattle.mm_logic.specs.Growth.{root, missing_cells, AllGrown}
use Rattle.mm_nodes.specs.declared.TheConstants.{MAX_LIMIT, MOST_ROWS}
use Rattle.mm_nodes.specs.Demands.{Frame, IsExact, IsWithin}
use Rattle.mm_states.specs.Letters as letters
use Rattle.mm_states.specs.Calls.{IsRoomy}
use Rattle.mm_tree.specs.ValidTree.{IsValidTree}
use Rattle.mm_tree.specs.Nodes.{named, named_leaf, field_of, IsOver}
use Rattle.mm_tree.specs.declared.node.Node.{Node}
use Rattle.mm_tree.specs.declared.node.Leaf.{Leaf}
use Rattle.mm_tree.specs.declared.node.Node as nodes_of
use Rattle.mm_nodes.specs.declared.keeps.KeepFault.{KeepFault}
use Rattle.mm_nodes.specs.declared.keeps.KeepFault.TheVariants.{Full}

-- A leaf of a valid tree can be asked of an automaton of F over g with these lists.
pub record CanMakeLeaf (F : Formula) (g : Field) (lists : List (List Value)) (leaf : Leaf) (room : ℕ) : Type 0 where
  pub field : letters.IsOver F g leaf.field
  pub over : IsOver leaf.field (nodes_of.Leaf leaf)
  pub valid : IsValidTree leaf.field (named_leaf leaf)
  pub roomy : IsRoomy F lists room

-- The entry n was made for types vs: the lists grew by exactly the values that occur in them and were missing, within the room.
pub record MakesEntry (F : Formula) (olds nows : List (List Value)) (Is : Type 0) (vs : List Value) (room : ℕ) : Type 0 where
  pub is : Is
  pub grown : AllGrown olds nows (occurring F vs)
  pub within : missing_cells F olds vs ≤ room

-- What a call that makes an entry for types vs answers: Full only where the missing cells and the rows exceed the room.
abbrev pub Makes : {N : Type 0} → Formula → (olds nows : List (List Value)) → (N → Type 0) → List Value → ℕ → Result N KeepFault → Type 0
Makes F olds nows Is vs room (Ok n) = MakesEntry F olds nows (Is n) vs room
Makes F olds nows Is vs room (Err e) = e ≡ Full → room < missing_cells F olds vs + length (distinct vs)

-- A walk over the nodes of a tree can go: the tree is valid, and the lists are exact and within the limit.
pub record CanWalk (F : Formula) (g : Field) (lists : List (List Value)) (limit : ℕ) (node : Node) : Type 0 where
  pub over : IsOver (field_of node) node
  pub valid : IsValidTree (field_of node) (named node)
  pub field : letters.IsOver F g (field_of node)
  pub exact : IsExact F lists
  pub cells : list_cells (nodes F) lists ≤ limit
  pub limited : limit ≤ MAX_LIMIT

-- A sketch of n, if any: it knows what is right wherever n does.
abbrev pub IsSketchOf : {N : Type 0} → (Frame → Op → N → Type 0) → N → Option N → Type 0
IsSketchOf Knows n (Some sketch) = (fr : Frame) (op : Op) → Knows fr op n → Knows fr op sketch
IsSketchOf Knows n None = Unit {0}

-- Whatever list of types has those of the root and vs: its cells and so many rows exceed the limit.
abbrev pub Exceeds : Formula → List (List Value) → List Value → (rows limit : ℕ) → Type 0
Exceeds F lists vs rows limit = (all : List Value) → IsWithin (root F lists) all → IsWithin vs all → limit < cells F all + rows

-- The room: what the limit leaves beside cells and rows. Full where they exceed it.
abbrev pub IsRoom : (used limit : ℕ) → Result ℕ KeepFault → Type 0
IsRoom used limit (Ok room) = used + room ≡ limit
IsRoom used limit (Err e) = (e ≡ Full) × (limit < used)

-- An entry was made for types vs within the limit, and its rows are counted.
pub record AddsEntry {N : Type 0} (count : N → ℕ) (F : Formula) (olds nows : List (List Value)) (Is : N → Type 0) (vs : List Value) (limit before after : ℕ) (n : N) : Type 0 where
  pub is : Is n
  pub grown : AllGrown olds nows (occurring F vs)
  pub cells : list_cells (nodes F) nows ≤ limit
  pub rows : after ≡ before + count n
  pub small : after ≤ MOST_ROWS

abbrev pub Adds : {N : Type 0} → (N → ℕ) → Formula → (olds nows : List (List Value)) → (N → Type 0) → List Value → (limit before after : ℕ) → Result N KeepFault → Type 0
Adds count F olds nows Is vs limit before after (Ok n) = AddsEntry count F olds nows Is vs limit before after n
Adds count F olds nows Is vs limit before after (Err e) = e ≡ Full → Exceeds F olds vs (before + length (distinct vs)) limit
