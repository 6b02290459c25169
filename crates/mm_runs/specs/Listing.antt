-- Runs as a list, in the order of places, and when it is that of a tree.
use Rattle.std.specs.Prelude.{◌≡◌, ◌<◌, ℕ, ◌+◌, List, [], ◌∷◌, ◌++◌, map, length}
use Rattle.mm_field.specs.declared.Field.{Field}
use Rattle.mm_logic.specs.Formula.{Formula}
use Rattle.mm_logic.specs.Value.{Value}
use Rattle.mm_logic.specs.Growth.{root, type_at}
use Rattle.mm_logic.specs.JoinRule.{joined, lettered}
use Rattle.mm_logic.specs.Marks.{unmarked}
use Rattle.mm_logic.specs.Tree.{size, subtrees}
use Rattle.mm_logic.specs.Tree as shapes
use Rattle.mm_states.specs.Lists.{AllFit}
use Rattle.mm_tree.specs.NamedTree.{Tree, shape}
use Rattle.mm_nodes.specs.KeptTrees.{KeptTree, count}
use Rattle.mm_nodes.specs.KeptTrees.KeptTree.{One, Two}
use Rattle.mm_runs.specs.RunsCalls.{StandFor}

-- for each node in the order of places, the number of its run and how many nodes its subtree has
abbrev pub listed : KeptTree ℕ → List (ℕ × ℕ)
listed (One id) = (id, 1) ∷ []
listed (Two id a b) = (id, count a + count b + 1) ∷ (listed a ++ listed b)

-- the type that is joined from the leaves upwards, without marks
abbrev pub run_type : Field → Formula → shapes.Tree → Value
run_type f F S = joined f F (lettered S (unmarked (size S)))

-- There is one entry for each node of the tree: it has the number of nodes of the node's subtree, and the number of the type that is joined
-- there.
pub record ListStandsFor (f : Field) (F : Formula) (lists : List (List Value)) (T : Tree) (entries : List (ℕ × ℕ)) : Type 0 where
  pub sizes : map (λ e. e.1) entries ≡ map (λ S. length (subtrees S)) (subtrees (shape T))
  pub within : AllFit (λ e. e.0 < length (root F lists)) entries
  pub types : map (λ e. type_at F lists e.0) entries ≡ map (run_type f F) (subtrees (shape T))

-- Runs stand for a tree exactly where their list does.
abbrev pub RunsStandAsListed : Type 0
RunsStandAsListed =
    (f : Field) (F : Formula) (lists : List (List Value)) (T : Tree) (R : KeptTree ℕ)
    → (StandFor f F lists T R → ListStandsFor f F lists T (listed R)) × (ListStandsFor f F lists T (listed R) → StandFor f F lists T R)
