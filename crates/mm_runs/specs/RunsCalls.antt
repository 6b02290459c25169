-- What runs stand for, and what calls on them leave.
use Rattle.std.specs.Prelude.{◌≡◌, ◌≤◌, ℕ, ◌+◌, List, ◌++◌}
use Rattle.mm_field.specs.declared.Field.{Field}
use Rattle.mm_logic.specs.Formula.{Formula}
use Rattle.mm_logic.specs.Value.{Value}
use Rattle.mm_logic.specs.Occurrence.{cells}
use Rattle.mm_logic.specs.StateSize.Query.{Decide}
use Rattle.mm_logic.specs.Growth.{root, Grown}
use Rattle.mm_tree.specs.NamedTree.{Tree, shape}
use Rattle.mm_tree.specs.Paths.{Path}
use Rattle.mm_nodes.specs.KeptTrees.{KeptTree, StandsFor, StandsBeside}
use Rattle.mm_nodes.specs.Demands.{IsExact, made, made_rows}
use Rattle.mm_runs.specs.RunCalls.{IsLeafRun, IsJoinRun}

-- The runs stand for a tree: at each node the number of the type that is joined there.
abbrev pub StandFor : Field → Formula → List (List Value) → Tree → KeptTree ℕ → Type 0
StandFor f F lists T R = StandsFor (IsLeafRun (record { f = f; F = F; lists = lists })) (IsJoinRun (record { f = f; F = F; lists = lists })) T R

-- The same beside a place.
abbrev pub StandBeside : Field → Formula → List (List Value) → Path → Tree → KeptTree ℕ → Type 0
StandBeside f F lists path T R = StandsBeside (IsLeafRun (record { f = f; F = F; lists = lists })) (IsJoinRun (record { f = f; F = F; lists = lists })) path T R

-- The runs stand for T; the types before are followed by exactly those of T that were missing, each once; the lists are exactly the values
-- that occur in these, with the last mark at them; and the cells of the types before with those of T, and the nodes of T, are within the
-- limit.
pub record KeepRuns (F : Formula) (before : List Value) (lists marked : List (List Value)) (f : Field) (T : Tree) (limit : ℕ) (runs : KeptTree ℕ) : Type 0 where
  pub stands : StandFor f F lists T runs
  pub grown : Grown before (root F lists) (made f (Decide F) (shape T))
  pub exact : IsExact F lists
  pub mark : marked ≡ lists
  pub fits : cells F (before ++ made f (Decide F) (shape T)) + made_rows f (Decide F) (shape T) ≤ limit
