-- What becomes of kept nodes where a part of their tree is exchanged.
use Rattle.std.specs.Prelude.{◌≡◌, ◌<◌, ◌≤◌, ℕ, ◌+◌, List, ◌++◌, length, Result, Ok, Err}
use Rattle.mm_field.specs.declared.Field.{Field}
use Rattle.mm_logic.specs.Formula.{Formula}
use Rattle.mm_logic.specs.Value.{Value}
use Rattle.mm_logic.specs.Occurrence.{nodes, occurring, list_cells, cells}
use Rattle.mm_logic.specs.Growth.{root, Grown, AllGrown}
use Rattle.mm_logic.specs.StateSize.{Query}
use Rattle.mm_tree.specs.NamedTree.{Tree, shape}
use Rattle.mm_tree.specs.Paths.{Path}
use Rattle.mm_nodes.specs.declared.TheConstants.{MAX_LIMIT}
use Rattle.mm_nodes.specs.declared.keeps.Keeps.{Ghosts}
use Rattle.mm_nodes.specs.declared.kept.Kept.{Kept}
use Rattle.mm_nodes.specs.declared.keeps.KeepFault.{KeepFault}
use Rattle.mm_nodes.specs.declared.keeps.KeepFault.TheVariants.{Full}
use Rattle.mm_nodes.specs.declared.change.Change.{Change}
use Rattle.mm_nodes.specs.KeptTrees.{KeptTree, remade, row_sum, StandsFor}
use Rattle.mm_nodes.specs.KeptNodes.{tree_of, IsCounted}
use Rattle.mm_nodes.specs.Demands.{IsExact, IsWithin, made, made_rows}
use Rattle.mm_nodes.specs.Calls.{Exceeds}

-- With the new part and the entries above it, what is kept stands for the tree, within the limit.
pub record ChangesKept {N : Type 0} (K : Ghosts N) (F : Formula) (olds nows : List (List Value)) (f : Field) (T : Tree) (R : KeptTree N) (path : Path) (limit total : ℕ) (change : Change N) : Type 0 where
  pub stands : StandsFor (K.IsLeaf (record { f = f; F = F; lists = nows })) (K.IsJoin (record { f = f; F = F; lists = nows })) T (remade path R (tree_of change.part) change.made.items)
  pub sums : IsCounted K.rows change.part
  pub few : length change.made.items ≤ length path
  pub grown : (ws : List Value) × AllGrown olds nows (occurring F ws) × IsWithin ws (made f (K.query F) (shape T))
  pub fits : list_cells (nodes F) nows + total ≤ limit

-- The new part and the entries above it, or Full only where the cells of all types and so many rows in total exceed the limit.
abbrev pub Changes : {N : Type 0} → Ghosts N → Formula → (olds nows : List (List Value)) → Field → Tree → KeptTree N → Path → (limit total : ℕ) → Result (Change N) KeepFault → Type 0
Changes K F olds nows f T R path limit total (Ok change) = ChangesKept K F olds nows f T R path limit total change
Changes K F olds nows f T R path limit total (Err e) = e ≡ Full → Exceeds F olds (made f (K.query F) (shape T)) total limit

-- Between calls: the lists are exactly the values that occur in the types of the root, the last mark is at them, each subtree knows its
-- sums, and cells and rows are within the limit.
pub record IsSettled {N : Type 0} (row_count : N → ℕ) (F : Formula) (lists marked : List (List Value)) (limit : ℕ) (kept : Kept N) : Type 0 where
  pub exact : IsExact F lists
  pub mark : marked ≡ lists
  pub sums : IsCounted row_count kept
  pub within : list_cells (nodes F) lists + row_sum row_count (tree_of kept) ≤ limit
  pub limited : limit ≤ MAX_LIMIT

-- What is kept stands for T, the types before are followed by exactly those of T that were missing, each once, and all is settled.
pub record KeepsTree {N : Type 0} (K : Ghosts N) (F : Formula) (before : List Value) (lists marked : List (List Value)) (f : Field) (T : Tree) (limit : ℕ) (kept : Kept N) : Type 0 where
  pub stands : StandsFor (K.IsLeaf (record { f = f; F = F; lists = lists })) (K.IsJoin (record { f = f; F = F; lists = lists })) T (tree_of kept)
  pub grown : Grown before (root F lists) (made f (K.query F) (shape T))
  pub fits : cells F (before ++ made f (K.query F) (shape T)) + made_rows f (K.query F) (shape T) ≤ limit
  pub settled : IsSettled K.rows F lists marked limit kept

-- The cells of the types before with those of T, and the rows of T, exceed the limit.
abbrev pub IsFull : Formula → Query → List Value → Field → Tree → ℕ → Type 0
IsFull F Q before f T limit = limit < cells F (before ++ made f Q (shape T)) + made_rows f Q (shape T)
