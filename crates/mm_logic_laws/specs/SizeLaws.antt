-- The laws of the state size.
use Rattle.std.specs.Prelude.{◌≡◌, Bool, false, List, length}
use Rattle.mm_field.specs.declared.Field.{Field}
use Rattle.mm_logic.specs.Formula.{Formula}
use Rattle.mm_logic.specs.Marks.{assign, unmarked}
use Rattle.mm_logic.specs.Tree.{Tree, size, IsValid, subtrees}
use Rattle.mm_logic.specs.Meaning.{WellSorted}
use Rattle.mm_logic.specs.Types.{type_of}
use Rattle.mm_logic.specs.JoinRule.{joined, lettered}
use Rattle.mm_logic.specs.StateSize.{rows}
use Rattle.mm_logic.specs.StateSize.Query.{Decide}

-- The rows of a formula that is decided are the nodes of the tree.
abbrev pub RowsOfDecideAreNodes : Type 0
RowsOfDecideAreNodes = (f : Field) (F : Formula) (T : Tree) → rows f (Decide F) T ≡ length (subtrees T)

-- Where no element variable is free, the type without an assignment, and the type of each set as the sought variable, are those
-- that the rules make from the leaves upwards.
abbrev pub TypesOfQueriesAreMadeByJoins : Type 0
TypesOfQueriesAreMadeByJoins =
    (f : Field) (T : Tree) → IsValid f T → (F : Formula) → WellSorted (λ k. false) F
    → (type_of f F T (unmarked (size T)) ≡ joined f F (lettered T (unmarked (size T))))
    × ((A : List Bool) → type_of f F T (assign 0 A (unmarked (size T))) ≡ joined f F (lettered T (assign 0 A (unmarked (size T)))))
