-- What is kept at the nodes of a tree, in the shape of the tree, and what becomes of it where a part is made anew.
use Rattle.std.specs.Prelude.{ℕ, zero, suc, ◌+◌, ◌-◌, nat_lt, true, false, List, [], ◌∷◌, length, slice_index_or, if◌then◌else◌}
use Rattle.mm_logic.specs.Operator.{Op}
use Rattle.mm_tree.specs.NamedTree.{Tree}
use Rattle.mm_tree.specs.NamedTree.Tree.{Elem, Void, Join}
use Rattle.mm_tree.specs.Paths.{Path}

-- an entry for a leaf, or an entry for a join with what is kept below it on the left and on the right
pub data KeptTree (N : Type 0) : Type 0 where
  One : N → KeptTree N
  Two : N → KeptTree N → KeptTree N → KeptTree N

module _ {N : Type 0} where
  -- the entry of the root
  abbrev pub top : KeptTree N → N
  top (One n) = n
  top (Two n a b) = n

  -- how many nodes there are
  abbrev pub count : KeptTree N → ℕ
  count (One n) = 1
  count (Two n a b) = count a + count b + 1

  -- The way to the node of a number: each join is counted before its left part, and this before the right one.
  abbrev pub path_in : ℕ → KeptTree N → Path
  path_in zero R = []
  path_in (suc k) (One n) = []
  path_in (suc k) (Two n a b) = if nat_lt k (count a) then true ∷ path_in k a else false ∷ path_in (k - count a) b

  -- the entry of the node of a number
  abbrev pub entry_at : ℕ → KeptTree N → N
  entry_at zero R = top R
  entry_at (suc k) (One n) = n
  entry_at (suc k) (Two n a b) = if nat_lt k (count a) then entry_at k a else entry_at (k - count a) b

  -- The part at the end of a way exchanged for a new one, and the entries above it for those that were made, the lowest first. Where
  -- fewer were made, those further up stay.
  abbrev pub remade : Path → KeptTree N → KeptTree N → List N → KeptTree N
  remade [] R new made = new
  remade (true ∷ path) (Two n a b) new made = Two (slice_index_or made (length path) n) (remade path a new made) b
  remade (false ∷ path) (Two n a b) new made = Two (slice_index_or made (length path) n) a (remade path b new made)
  remade (step ∷ path) (One n) new made = One n

module _ {N : Type 0} (rows : N → ℕ) where
  -- the rows of all nodes
  abbrev pub row_sum : KeptTree N → ℕ
  row_sum (One n) = rows n
  row_sum (Two n a b) = row_sum a + row_sum b + rows n

  -- the rows of the nodes that are neither on a way nor below its end
  abbrev pub rows_beside : Path → KeptTree N → ℕ
  rows_beside (true ∷ path) (Two n a b) = rows_beside path a + row_sum b
  rows_beside (false ∷ path) (Two n a b) = rows_beside path b + row_sum a
  rows_beside _ _ = 0

module _ {N : Type 0} (IsLeaf : Tree → N → Type 0) (IsJoin : Op → N → N → N → Type 0) where
  -- What is kept stands for a tree: at each leaf what is kept is that of the leaf, and at each join that of its operator and of what its
  -- children keep.
  abbrev pub StandsFor : Tree → KeptTree N → Type 0
  StandsFor (Elem name vec weight) (One n) = IsLeaf (Elem name vec weight) n
  StandsFor (Void name t) (One n) = IsLeaf (Void name t) n
  StandsFor (Join name op l r) (Two n a b) = IsJoin op (top a) (top b) n × StandsFor l a × StandsFor r b
  StandsFor _ _ = ⊥

  -- The same but for what is kept at the end of a way and below, which may be anything: each join on the way keeps what its own operator
  -- makes of what its children keep now.
  abbrev pub StandsBeside : Path → Tree → KeptTree N → Type 0
  StandsBeside [] T R = Unit {0}
  StandsBeside (true ∷ path) (Join name op l r) (Two n a b) = IsJoin op (top a) (top b) n × StandsBeside path l a × StandsFor r b
  StandsBeside (false ∷ path) (Join name op l r) (Two n a b) = IsJoin op (top a) (top b) n × StandsFor l a × StandsBeside path r b
  StandsBeside _ _ _ = ⊥
