-- How the checker keeps the rows of nodes, and what may be chosen at a node.
use Rattle.std.specs.Prelude.{◌≡◌, ◌≤◌, nat_abs, ℕ, zero, suc, Bool, true, false, List, [], ◌∷◌, ◌++◌, map, slice_get, Option, Some, None, is_some, nat_eq}
use Rattle.std.specs.List.{list_all}
use Rattle.std.specs.Map.{lookup}
use Rattle.mm_tree.specs.NamedTree.{Tree}
use Rattle.mm_tree.specs.Nodes.{named_leaf}
use Rattle.mm_checker.specs.NodeLines.{Row, Rooted, Choice, TreeLine, nothing_of, is_earlier, are_different}
use Rattle.mm_checker.specs.NodeLines.TreeLine.{OfLeaf, OfJoin}
use Rattle.mm_checker.specs.declared.nodes.Row.{Row as KeptRow}
use Rattle.mm_checker.specs.declared.nodes.Rooted.{Rooted as KeptRooted}
use Rattle.mm_checker.specs.declared.nodes.Rooted.TheVariants as rooted
use Rattle.mm_checker.specs.declared.nodes.Choice.{Choice as KeptChoice}
use Rattle.mm_checker.specs.declared.nodes.Node.{Node}
use Rattle.mm_checker.specs.declared.nodes.Node.TheVariants as node

-- ---- rows with their sets

abbrev pub with_set : (ℕ → ℕ → List Bool) → KeptRow → Row
with_set g r = record { value = r.value; weight = r.weight; x = r.x; y = r.y; set = g r.x r.y }

-- the set of a leaf's row
abbrev pub leaf_set : Tree → ℕ → ℕ → List Bool
leaf_set leaf zero y = nothing_of leaf
leaf_set leaf (suc x) y = true ∷ []

abbrev pub set_in : Option Row → List Bool
set_in None = []
set_in (Some r) = r.set

-- the set of a join's row
abbrev pub pair_set : List Row → List Row → ℕ → ℕ → List Bool
pair_set lefts rights x y = set_in (slice_get lefts x) ++ set_in (slice_get rights y)

-- the rows of a kept tree
abbrev pub kept_rows : KeptRooted → List KeptRow
kept_rows (rooted.Leaf l rows) = rows.items
kept_rows (rooted.Join' p l q r rows) = rows.items

-- the same with their sets
abbrev pub rows_of : KeptRooted → List Row
rows_of (rooted.Leaf l rows) = map (with_set (leaf_set (named_leaf l))) rows.items
rows_of (rooted.Join' p l q r rows) = map (with_set (pair_set (rows_of l) (rows_of r))) rows.items

-- ---- a node that is begun

-- what is kept of a node over the trees that are done
abbrev pub IsNode : Node → List Rooted → TreeLine → Type 0
IsNode (node.Leaf k l) trees (OfLeaf j leaf) = (k ≡ j) × (named_leaf l.now ≡ leaf)
IsNode (node.Join n l r) (right ∷ left ∷ trees) (OfJoin name op) = (n ≡ name) × (rows_of l.now ≡ left.rows) × (rows_of r.now ≡ right.rows)
IsNode n trees line = ⊥

-- Weights are far from the ends of their range.
abbrev pub AreLight : List KeptRow → Type 0
AreLight [] = Unit {0}
AreLight (r ∷ rows) = (nat_abs r.weight ≤ 4611686018427387903) × AreLight rows

abbrev pub IsLight : Node → Type 0
IsLight (node.Leaf k l) = Unit {0}
IsLight (node.Join n l r) = AreLight (kept_rows l.now) × AreLight (kept_rows r.now)

-- the sets of its rows
abbrev pub sets_of : Node → ℕ → ℕ → List Bool
sets_of (node.Leaf k l) = leaf_set (named_leaf l.now)
sets_of (node.Join n l r) = pair_set (rows_of l.now) (rows_of r.now)

-- what is kept of a choice: all but its set
abbrev pub IsChoice : Option Choice → Option KeptChoice → Type 0
IsChoice None None = Unit {0}
IsChoice (Some c) (Some d) = (d.value ≡ c.value) × (d.weight ≡ c.weight) × (d.x ≡ c.x) × (d.y ≡ c.y)
IsChoice c d = ⊥

-- each row comes before those after it
abbrev pub AreRising : List KeptRow → Type 0
AreRising [] = Unit {0}
AreRising (r ∷ rows) = (list_all (λ q. is_earlier r.x r.y q.x q.y) rows ≡ true) × AreRising rows

-- whether a row may be added, and that it is the next one
abbrev pub IsNext : (ℕ → ℕ → List Bool) → KeptRow → Option Row → Bool → Type 0
IsNext g row None good = good ≡ false
IsNext g row (Some r) good = (good ≡ true) × (r ≡ with_set g row)

-- ---- rows by their values

abbrev pub keyed : KeptRow → ℕ × KeptRow
keyed r = (r.value, r)

-- the row of a value, where there is one
abbrev pub row_in : List (ℕ × KeptRow) → Option ℕ → Option KeptRow
row_in table None = None
row_in table (Some n) = lookup (nat_eq n) table

-- A row is put behind others where none of them has its value.
abbrev pub IsAdded : List (ℕ × KeptRow) → KeptRow → Bool → List (ℕ × KeptRow) → Type 0
IsAdded old r true new = (lookup (nat_eq r.value) old ≡ None) × (new ≡ old ++ keyed r ∷ [])
IsAdded old r false new = is_some (lookup (nat_eq r.value) old) ≡ true

-- The rows stand by their values where these are all different.
abbrev pub IsTable : List KeptRow → Bool → List (ℕ × KeptRow) → Type 0
IsTable rows good table = (are_different (map (λ r. r.value) rows) ≡ good) × (good ≡ true → table ≡ map keyed rows)
