-- What the rows of a whole tree stand for, and what calls on them leave.
use Rattle.std.specs.Prelude.{◌≡◌, ◌≤◌, ℕ, ◌+◌, List, ◌++◌}
use Rattle.mm_field.specs.declared.Field.{Field}
use Rattle.mm_logic.specs.Formula.{Formula}
use Rattle.mm_logic.specs.Value.{Value}
use Rattle.mm_logic.specs.Occurrence.{cells}
use Rattle.mm_logic.specs.StateSize.Query.{Least}
use Rattle.mm_logic.specs.Growth.{root, Grown}
use Rattle.mm_tree.specs.NamedTree.{Tree, shape}
use Rattle.mm_tree.specs.Paths.{Path}
use Rattle.mm_nodes.specs.KeptTrees.{KeptTree, StandsFor, StandsBeside}
use Rattle.mm_nodes.specs.Changes.{IsFull}
use Rattle.mm_nodes.specs.Demands.{IsExact, made, made_rows}
use Rattle.mm_least.specs.NodeRowsValue.{NodeValue}
use Rattle.mm_least.specs.RowCalls.{IsLeafRows, IsJoinRows}

-- The rows stand for a tree: at each node the best of what it offers, one for each type.
abbrev pub StandFor : Field → Formula → List (List Value) → Tree → KeptTree NodeValue → Type 0
StandFor f F lists T R = StandsFor (IsLeafRows (record { f = f; F = F; lists = lists })) (IsJoinRows (record { f = f; F = F; lists = lists })) T R

-- The same beside a place.
abbrev pub StandBeside : Field → Formula → List (List Value) → Path → Tree → KeptTree NodeValue → Type 0
StandBeside f F lists path T R = StandsBeside (IsLeafRows (record { f = f; F = F; lists = lists })) (IsJoinRows (record { f = f; F = F; lists = lists })) path T R

-- The rows stand for T; the types before are followed by exactly those of T that were missing, each once; the lists are exactly the values
-- that occur in these, with the last mark at them; and the cells of the types before with those of T, and the rows of T, are within the
-- limit.
pub record KeepRows (F : Formula) (before : List Value) (lists marked : List (List Value)) (f : Field) (T : Tree) (limit : ℕ) (rows : KeptTree NodeValue) : Type 0 where
  pub stands : StandFor f F lists T rows
  pub grown : Grown before (root F lists) (made f (Least F) (shape T))
  pub exact : IsExact F lists
  pub mark : marked ≡ lists
  pub fits : cells F (before ++ made f (Least F) (shape T)) + made_rows f (Least F) (shape T) ≤ limit

-- The cells of the types before with those of T, and the rows of T, exceed the limit.
abbrev pub IsFullOfRows : Formula → List Value → Field → Tree → ℕ → Type 0
IsFullOfRows F before f T limit = IsFull F (Least F) before f T limit
