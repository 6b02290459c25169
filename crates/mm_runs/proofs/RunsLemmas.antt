-- Runs of a whole tree.
use Rattle.std.proofs.Common.{◌<◌, ℕ, List, length}
use Rattle.mm_field.specs.declared.Field.{Field}
use Rattle.mm_logic.specs.Formula.{Formula}
use Rattle.mm_logic.specs.Value.{Value}
use Rattle.mm_logic.specs.Growth.{root}
use Rattle.mm_tree.specs.NamedTree.{Tree}
use Rattle.mm_tree.specs.NamedTree.Tree.{Elem, Void, Join}
use Rattle.mm_nodes.specs.KeptTrees.{KeptTree, top}
use Rattle.mm_nodes.specs.KeptTrees.KeptTree.{One, Two}
use Rattle.mm_runs.specs.RunsView.{AreBelow}
use Rattle.mm_runs.specs.RunsCalls.{StandFor}

pub below : (f : Field) (F : Formula) (lists : List (List Value)) (T : Tree) (R : KeptTree ℕ) → StandFor f F lists T R → AreBelow (length (root F lists)) R
below f F lists (Elem name vec weight) (One id) s = s.within
below f F lists (Void name t) (One id) s = s.within
below f F lists (Join name op l r) (Two id a b) s = (s.0.within, below f F lists l a s.1, below f F lists r b s.2)
below f F lists (Elem name vec weight) (Two id a b) s = absurd s
below f F lists (Void name t) (Two id a b) s = absurd s
below f F lists (Join name op l r) (One id) s = absurd s

pub top_below : (n : ℕ) (R : KeptTree ℕ) → AreBelow n R → top R < n
top_below n (One id) s = s
top_below n (Two id a b) s = s.0
