-- What the nodes keep stands beside the place of an edit.
use Rattle.std.proofs.Common.{ℕ, ℤ, Bool, true, false, List, [], ◌∷◌, if◌then◌else◌}
use Rattle.std.specs.Str.{bytes_eq}
use Rattle.mm_field.specs.declared.Field.{Field}
use Rattle.mm_logic.specs.Formula.{Formula}
use Rattle.mm_logic.specs.Operator.{Op}
use Rattle.mm_logic.specs.Value.{Value}
use Rattle.mm_logic.specs.StateSize.{Query}
use Rattle.mm_logic.specs.StateSize.Query.{Decide, Least}
use Rattle.mm_tree.specs.NamedTree.{Tree, shape}
use Rattle.mm_tree.specs.NamedTree.Tree.{Elem, Void, Join}
use Rattle.mm_tree.specs.Paths.{Path, with_node, with_weight}
use Rattle.mm_tree.specs.Places.{IsPath}
use Rattle.mm_nodes.specs.KeptTrees.{KeptTree, StandsFor, StandsBeside}
use Rattle.mm_nodes.specs.KeptTrees.KeptTree.{One, Two}
use Rattle.mm_nodes.specs.Demands.{frame}
use Rattle.mm_runs.specs.RunCalls.{IsLeafRun, IsJoinRun}
use Rattle.mm_runs.specs.RunsCalls as runs
use Rattle.mm_least.specs.RowCalls.{IsLeafRows, IsJoinRows}
use Rattle.mm_edit.specs.SessionValue.{Entries}
use Rattle.mm_edit.specs.SessionValue.Entries.{Runs, Rows}
use Rattle.mm_edit.specs.KeptTypes.{StandFor, StandBeside}

module _ {N : Type 0} (IsLeaf : Tree → N → Type 0) (IsJoin : Op → N → N → N → Type 0) where
  pub exchanged_beside : (tree new : Tree) (path : Path) (R : KeptTree N) → IsPath tree path → StandsFor IsLeaf IsJoin tree R → StandsBeside IsLeaf IsJoin path (with_node tree path new) R
  unfolding IsPath with_node
  exchanged_beside (Elem name vec weight) new [] R w s = tt
  exchanged_beside (Void name t) new [] R w s = tt
  exchanged_beside (Join name op left right) new [] R w s = tt
  exchanged_beside (Elem name vec weight) new (step ∷ path) R w s = absurd w
  exchanged_beside (Void name t) new (step ∷ path) R w s = absurd w
  exchanged_beside (Join name op left right) new (true ∷ path) (Two n a b) w s = (s.0, exchanged_beside left new path a w s.1, s.2)
  exchanged_beside (Join name op left right) new (false ∷ path) (Two n a b) w s = (s.0, s.1, exchanged_beside right new path b w s.2)
  exchanged_beside (Join name op left right) new (true ∷ path) (One n) w s = absurd s
  exchanged_beside (Join name op left right) new (false ∷ path) (One n) w s = absurd s

-- beside a node that is exchanged
pub beside_exchange : (Q : Query) (f : Field) (lists : List (List Value)) (tree new : Tree) (path : Path) (E : Entries) → IsPath tree path → StandFor Q f lists tree E → StandBeside Q f lists path (with_node tree path new) E
beside_exchange (Decide F) f lists tree new path (Runs R) w s = exchanged_beside (IsLeafRun (frame f F lists)) (IsJoinRun (frame f F lists)) tree new path R w s
beside_exchange (Least F) f lists tree new path (Rows R) w s = exchanged_beside (IsLeafRows (frame f F lists)) (IsJoinRows (frame f F lists)) tree new path R w s
beside_exchange (Decide F) f lists tree new path (Rows R) w s = absurd s
beside_exchange (Least F) f lists tree new path (Runs R) w s = absurd s

leaf_reweighted : (f : Field) (F : Formula) (lists : List (List Value)) (name vec : List ℕ) (weight old : ℤ) (b : Bool) (id : ℕ)
    → IsLeafRun (record { f = f; F = F; lists = lists }) (Elem name vec old) id → IsLeafRun (record { f = f; F = F; lists = lists }) (if b then Elem name vec weight else Elem name vec old) id
unfolding shape
leaf_reweighted f F lists name vec weight old true id h = record { within = h.within; value = h.value }
leaf_reweighted f F lists name vec weight old false id h = h

either_stands : (f : Field) (F : Formula) (lists : List (List Value)) (name vec : List ℕ) (weight old : ℤ) (b : Bool) (id : ℕ)
    → IsLeafRun (record { f = f; F = F; lists = lists }) (if b then Elem name vec weight else Elem name vec old) id → runs.StandFor f F lists (if b then Elem name vec weight else Elem name vec old) (One id)
either_stands f F lists name vec weight old true id h = h
either_stands f F lists name vec weight old false id h = h

-- runs know of no weight
pub runs_reweighted : (f : Field) (F : Formula) (lists : List (List Value)) (name : List ℕ) (weight : ℤ) (tree : Tree) (R : KeptTree ℕ) → runs.StandFor f F lists tree R → runs.StandFor f F lists (with_weight name weight tree) R
unfolding with_weight
runs_reweighted f F lists name weight (Elem n vec old) (One id) s = either_stands f F lists n vec weight old (bytes_eq name n) id (leaf_reweighted f F lists n vec weight old (bytes_eq name n) id s)
runs_reweighted f F lists name weight (Void n t) (One id) s = s
runs_reweighted f F lists name weight (Join n op left right) (Two id a b) s = (s.0, runs_reweighted f F lists name weight left a s.1, runs_reweighted f F lists name weight right b s.2)
runs_reweighted f F lists name weight (Elem n vec old) (Two id a b) s = absurd s
runs_reweighted f F lists name weight (Void n t) (Two id a b) s = absurd s
runs_reweighted f F lists name weight (Join n op left right) (One id) s = absurd s
