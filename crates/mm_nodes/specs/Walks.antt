-- What walks over the nodes of a tree make.
use Rattle.std.specs.Prelude.{◌≡◌, ◌<◌, ◌≤◌, ℕ, ◌+◌, ◌*◌, Bool, true, false, List, [], ◌∷◌, ◌++◌, length, Option, Some, None, Result, Ok, Err}
use Rattle.mm_field.specs.declared.Field.{Field}
use Rattle.mm_logic.specs.Formula.{Formula}
use Rattle.mm_logic.specs.Value.{Value}
use Rattle.mm_logic.specs.Occurrence.{nodes, occurring, distinct, list_cells}
use Rattle.mm_logic.specs.JoinRule.{all_pairs, join_type}
use Rattle.mm_logic.specs.Growth.{AllGrown}
use Rattle.mm_logic.specs.StateSize.{Query}
use Rattle.mm_logic_laws.specs.ValueLaws.{types_by_rules}
use Rattle.mm_ops.specs.OpValue.{OpValue}
use Rattle.mm_tree.specs.NamedTree.{Tree, shape}
use Rattle.mm_tree.specs.NamedTree.Tree.{Join}
use Rattle.mm_tree.specs.Paths.{Path, node_at}
use Rattle.mm_nodes.specs.declared.TheConstants.{MOST_ROWS}
use Rattle.mm_nodes.specs.declared.keeps.Keeps.{Ghosts}
use Rattle.mm_nodes.specs.declared.keeps.KeepFault.{KeepFault}
use Rattle.mm_nodes.specs.declared.keeps.KeepFault.TheVariants.{Full}
use Rattle.mm_nodes.specs.declared.kept.Kept.{Kept}
use Rattle.mm_nodes.specs.KeptTrees.{KeptTree, top, row_sum, remade, StandsFor, StandsBeside}
use Rattle.mm_nodes.specs.KeptTrees.KeptTree.{Two}
use Rattle.mm_nodes.specs.KeptNodes.{tree_of, IsCounted}
use Rattle.mm_nodes.specs.Demands.{IsWithin, made, made_rows}
use Rattle.mm_nodes.specs.Calls.{AddsEntry, Exceeds}

-- the types that a join makes of what two nodes keep
abbrev pub pair_types : {N : Type 0} → Ghosts N → Formula → List (List Value) → OpValue → N → N → List Value
pair_types K F lists op a b =
    all_pairs (join_type op.f F op.op) (K.types (record { f = op.f; F = F; lists = lists }) a) (K.types (record { f = op.f; F = F; lists = lists }) b)

-- Two parts were joined by an entry.
pub record JoinsParts {N : Type 0} (K : Ghosts N) (F : Formula) (olds nows : List (List Value)) (op : OpValue) (a b : KeptTree N) (limit before after : ℕ) (kept : Kept N) : Type 0 where
  pub tree : tree_of kept ≡ Two (top (tree_of kept)) a b
  pub sums : IsCounted K.rows kept
  pub adds : AddsEntry K.rows F olds nows (K.IsJoin (record { f = op.f; F = F; lists = nows }) op.op (top a) (top b)) (pair_types K F olds op (top a) (top b)) limit before after (top (tree_of kept))

abbrev pub Joins : {N : Type 0} → Ghosts N → Formula → (olds nows : List (List Value)) → OpValue → (a b : KeptTree N) → (limit before after : ℕ) → Result (Kept N) KeepFault → Type 0
Joins K F olds nows op a b limit before after (Ok kept) = JoinsParts K F olds nows op a b limit before after kept
Joins K F olds nows op a b limit before after (Err e) = e ≡ Full → Exceeds F olds (pair_types K F olds op (top a) (top b)) (before + length (distinct (pair_types K F olds op (top a) (top b)))) limit

-- What is kept stands for a tree, and the lists grew by exactly what its types need.
pub record BuildsTree {N : Type 0} (K : Ghosts N) (F : Formula) (olds nows : List (List Value)) (f : Field) (T : Tree) (limit before after : ℕ) (kept : Kept N) : Type 0 where
  pub stands : StandsFor (K.IsLeaf (record { f = f; F = F; lists = nows })) (K.IsJoin (record { f = f; F = F; lists = nows })) T (tree_of kept)
  pub sums : IsCounted K.rows kept
  pub grown : AllGrown olds nows (occurring F (made f (K.query F) (shape T)))
  pub cells : list_cells (nodes F) nows ≤ limit
  pub rows : after ≡ before + row_sum K.rows (tree_of kept)
  pub small : after ≤ MOST_ROWS

abbrev pub Builds : {N : Type 0} → Ghosts N → Formula → (olds nows : List (List Value)) → Field → Tree → (limit before after : ℕ) → Result (Kept N) KeepFault → Type 0
Builds K F olds nows f T limit before after (Ok kept) = BuildsTree K F olds nows f T limit before after kept
Builds K F olds nows f T limit before after (Err e) = e ≡ Full → Exceeds F olds (made f (K.query F) (shape T)) (before + made_rows f (K.query F) (shape T)) limit

-- the rows of the joins on a way
abbrev pub path_rows : Field → Query → Path → Tree → ℕ
path_rows f Q (true ∷ path) (Join name op l r) = path_rows f Q path l + length (distinct (types_by_rules f Q (shape (Join name op l r))))
path_rows f Q (false ∷ path) (Join name op l r) = path_rows f Q path r + length (distinct (types_by_rules f Q (shape (Join name op l r))))
path_rows f Q _ _ = 0

-- the last of the entries that were made, or another one where none was
abbrev pub highest : {N : Type 0} → List N → N → N
highest [] n = n
highest (m ∷ ms) n = highest ms m

-- The entries above a place can be made again: what is kept stands beside the place, and the new part stands for the tree there.
pub record CanRemake {N : Type 0} (K : Ghosts N) (F : Formula) (lists : List (List Value)) (f : Field) (T : Tree) (R new : KeptTree N) (path : Path) : Type 0 where
  pub beside : StandsBeside (K.IsLeaf (record { f = f; F = F; lists = lists })) (K.IsJoin (record { f = f; F = F; lists = lists })) path T R
  pub part : StandsFor (K.IsLeaf (record { f = f; F = F; lists = lists })) (K.IsJoin (record { f = f; F = F; lists = lists })) (node_at T path) new

-- The entries above a place were made again, up to one that looks the same: with them what is kept stands for the tree.
pub record RemakesPath {N : Type 0} (K : Ghosts N) (F : Formula) (olds nows : List (List Value)) (f : Field) (T : Tree) (R new : KeptTree N) (path : Path) (items : List N) (limit before after : ℕ) (changed : Bool) : Type 0 where
  pub stands : StandsFor (K.IsLeaf (record { f = f; F = F; lists = nows })) (K.IsJoin (record { f = f; F = F; lists = nows })) T (remade path R new items)
  pub same : changed ≡ false → K.Same (top (remade path R new items)) (top R)
  pub few : length items ≤ length path
  pub all : changed ≡ true → length items ≡ length path
  pub grown : (ws : List Value) × AllGrown olds nows (occurring F ws) × IsWithin ws (made f (K.query F) (shape T))
  pub cells : list_cells (nodes F) nows ≤ limit
  pub rows : after ≡ before + path_rows f (K.query F) path T
  pub small : changed ≡ true → after ≤ MOST_ROWS
  pub bounded : after ≤ MOST_ROWS + length path * 4294967296

abbrev pub Remakes : {N : Type 0} → Ghosts N → Formula → (olds nows : List (List Value)) → Field → Tree → (R new : KeptTree N) → Path → List N → (limit before after : ℕ) → Result Bool KeepFault → Type 0
Remakes K F olds nows f T R new path items limit before after (Ok changed) = RemakesPath K F olds nows f T R new path items limit before after changed
Remakes K F olds nows f T R new path items limit before after (Err e) = e ≡ Full → Exceeds F olds (made f (K.query F) (shape T)) (before + path_rows f (K.query F) path T) limit

-- An entry was kept among those that were made; where nothing has changed it looks like the one before.
abbrev pub Renews : {N : Type 0} → (N → N → Type 0) → (old entry : N) → (olds nows : List N) → Result Bool KeepFault → Type 0
Renews Same old entry olds nows (Ok changed) = (nows ≡ olds ++ entry ∷ []) × (changed ≡ false → Same entry old)
Renews Same old entry olds nows (Err e) = e ≡ Full → ⊥

-- A join's entry was made again and kept among those made; where nothing has changed it looks like the one before.
pub record AddsAbove {N : Type 0} (K : Ghosts N) (F : Formula) (olds nows : List (List Value)) (op : OpValue) (a b old : N) (items later : List N) (limit before after : ℕ) (changed : Bool) : Type 0 where
  pub entry : N
  pub items_grow : later ≡ items ++ entry ∷ []
  pub adds : AddsEntry K.rows F olds nows (K.IsJoin (record { f = op.f; F = F; lists = nows }) op.op a b) (pair_types K F olds op a b) limit before after entry
  pub same : changed ≡ false → K.Same entry old

-- A join's entry stays, as its child looks the same.
pub record StaysAbove {N : Type 0} (K : Ghosts N) (olds nows : List (List Value)) (old : N) (items later : List N) (before after : ℕ) (changed : Bool) : Type 0 where
  pub lists : nows ≡ olds
  pub items_stay : later ≡ items
  pub rows : after ≡ before + K.rows old
  pub small : K.rows old < 4294967296
  pub still : changed ≡ false

-- What one step upwards does, where the child has changed and where it has not.
abbrev pub StepsUp : {N : Type 0} → Ghosts N → Formula → (olds nows : List (List Value)) → OpValue → (a b old : N) → (items later : List N) → (limit before after : ℕ) → Bool → Result Bool KeepFault → Type 0
StepsUp K F olds nows op a b old items later limit before after true (Ok changed) = AddsAbove K F olds nows op a b old items later limit before after changed
StepsUp K F olds nows op a b old items later limit before after false (Ok changed) = StaysAbove K olds nows old items later before after changed
StepsUp K F olds nows op a b old items later limit before after true (Err e) = e ≡ Full → Exceeds F olds (pair_types K F olds op a b) (before + length (distinct (pair_types K F olds op a b))) limit
StepsUp K F olds nows op a b old items later limit before after false (Err e) = ⊥

-- where an entry was taken, it is the last one of the deepest that were made; else none was made at this depth
abbrev pub TakesLast : {N : Type 0} → (olds nows : List N) → ℕ → Option N → Type 0
TakesLast olds nows depth (Some entry) = (olds ≡ nows ++ entry ∷ []) × (length olds ≡ depth)
TakesLast olds nows depth None = (nows ≡ olds) × (length olds < depth)

-- the entry, or the one before
abbrev pub renewed : {N : Type 0} → Option N → N → N
renewed (Some entry) old = entry
renewed None old = old
