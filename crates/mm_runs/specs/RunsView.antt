-- How runs are kept.
use Rattle.std.specs.Prelude.{ℕ, ◌<◌, List, length}
use Rattle.mm_logic.specs.Formula.{Formula}
use Rattle.mm_logic.specs.Value.{Value}
use Rattle.mm_logic.specs.Growth.{root}
use Rattle.mm_nodes.specs.declared.kept.Kept.{Kept}
use Rattle.mm_nodes.specs.KeptTrees.{KeptTree}
use Rattle.mm_nodes.specs.KeptTrees.KeptTree.{One, Two}
use Rattle.mm_nodes.specs.KeptNodes.{tree_of}
use Rattle.mm_nodes.specs.Changes.{IsSettled}

-- each number is below n
abbrev pub AreBelow : ℕ → KeptTree ℕ → Type 0
AreBelow n (One id) = id < n
AreBelow n (Two id a b) = (id < n) × AreBelow n a × AreBelow n b

-- All is settled, one row is counted for each node, and each number is in the list of the root.
pub record IsKept (F : Formula) (lists marked : List (List Value)) (limit : ℕ) (kept : Kept ℕ) : Type 0 where
  pub settled : IsSettled (λ id. 1) F lists marked limit kept
  pub below : AreBelow (length (root F lists)) (tree_of kept)
