-- The state size of a tree for a query, which decides whether the tree is over the limit.
use Rattle.std.specs.Prelude.{ℕ, ◌+◌, ◌<◌, List, [], ◌∷◌, map, length, flat_map, sum_by}
use Rattle.mm_field.specs.declared.Field.{Field}
use Rattle.mm_logic.specs.Formula.{Formula}
use Rattle.mm_logic.specs.Marks.{assign, unmarked, sets}
use Rattle.mm_logic.specs.Tree.{Tree, size, subtrees}
use Rattle.mm_logic.specs.Value.{Value}
use Rattle.mm_logic.specs.Types.{type_of}
use Rattle.mm_logic.specs.Occurrence.{distinct, cells}

-- What is asked of a tree: whether a formula without free variables holds, or the least set that satisfies a formula as its one
-- free variable, slot 0.
pub data Query : Type 0 where
  Decide : Formula → Query
  Least : Formula → Query

-- the formula of a query
abbrev pub asked : Query → Formula
asked (Decide F) = F
asked (Least F) = F

-- The types of the formula at a tree: the one type of a formula that is decided, and the types over all sets of elements of one
-- whose least set is sought.
abbrev pub types_at : Field → Query → Tree → List Value
types_at f (Decide F) T = type_of f F T (unmarked (size T)) ∷ []
types_at f (Least F) T = map (λ X. type_of f F T (assign 0 X (unmarked (size T)))) (sets (size T))

-- The types at all nodes of a tree.
abbrev pub types : Field → Query → Tree → List Value
types f Q T = flat_map (types_at f Q) (subtrees T)

-- The rows of a tree: the different types at each node, counted over the nodes.
abbrev pub rows : Field → Query → Tree → ℕ
rows f Q T = sum_by (λ N. length (distinct (types_at f Q N))) (subtrees T)

-- The state size: the cells of the types at all nodes, and the rows.
abbrev pub state_size : Field → Query → Tree → ℕ
state_size f Q T = cells (asked Q) (types f Q T) + rows f Q T

-- A tree is over the limit where its state size exceeds it.
abbrev pub IsOver : Field → Query → Tree → ℕ → Type 0
IsOver f Q T limit = limit < state_size f Q T
