-- What a tree needs of an automaton's lists and of the limit.
use Rattle.std.specs.Prelude.{◌≡◌, ℕ, true, Bool, List, length, flat_map, sum_by}
use Rattle.std.specs.List.{list_any}
use Rattle.mm_field.specs.declared.Field.{Field}
use Rattle.mm_logic.specs.Formula.{Formula}
use Rattle.mm_logic.specs.Value.{Value}
use Rattle.mm_logic.specs.Tree.{Tree, subtrees}
use Rattle.mm_logic.specs.Order.{SameMembers}
use Rattle.mm_logic.specs.Occurrence.{occurring, distinct}
use Rattle.mm_logic.specs.Growth.{root, no_values, AllGrown}
use Rattle.mm_logic.specs.StateSize.{Query}
use Rattle.mm_logic_laws.specs.ValueLaws.{types_by_rules}

-- The setting in which entries mean something: the field of the tree, the formula, and the automaton's lists.
pub record Frame : Type 0 where
  pub f : Field
  pub F : Formula
  pub lists : List (List Value)

abbrev pub frame : Field → Formula → List (List Value) → Frame
frame f F lists = record { f = f; F = F; lists = lists }

-- the types that the rules give at all nodes of a tree
abbrev pub made : Field → Query → Tree → List Value
made f Q T = flat_map (types_by_rules f Q) (subtrees T)

-- the rows of a tree: the different types at each node, counted over the nodes
abbrev pub made_rows : Field → Query → Tree → ℕ
made_rows f Q T = sum_by (λ N. length (distinct (types_by_rules f Q N))) (subtrees T)

-- Each test that some value of one list passes, some value of the other list passes.
abbrev pub IsWithin : List Value → List Value → Type 0
IsWithin vs ws = (p : Value → Bool) → list_any p vs ≡ true → list_any p ws ≡ true

-- The lists are exactly the values that occur in the types of the root's list.
abbrev pub IsExact : Formula → List (List Value) → Type 0
IsExact F lists = AllGrown (no_values F) lists (occurring F (root F lists))

-- An entry with these types and so many rows has the types vs, each in one row, and all of them are in the list of the root.
pub record HasTypes (F : Formula) (lists : List (List Value)) (ts : List Value) (rows : ℕ) (vs : List Value) : Type 0 where
  pub types : SameMembers ts vs
  pub counted : rows ≡ length (distinct vs)
  pub kept : IsWithin ts (root F lists)
