-- How entries are kept in boxes, beside the sums over each subtree.
use Rattle.std.specs.Prelude.{◌≡◌, ℕ, ◌+◌}
use Rattle.mm_nodes.specs.KeptTrees.{KeptTree, count, row_sum}
use Rattle.mm_nodes.specs.KeptTrees as trees
use Rattle.mm_nodes.specs.declared.kept.Kept as nodes

-- the entries
abbrev pub tree_of : {N : Type 0} → nodes.Kept N → KeptTree N
tree_of (nodes.One n) = trees.KeptTree.One n
tree_of (nodes.Two' above p a q b) = trees.KeptTree.Two above.entry (tree_of a) (tree_of b)

-- each join knows how many nodes and rows its subtree has
abbrev pub IsCounted : {N : Type 0} → (N → ℕ) → nodes.Kept N → Type 0
IsCounted rows (nodes.One n) = Unit {0}
IsCounted rows (nodes.Two' above p a q b) =
    (above.nodes ≡ count (tree_of a) + count (tree_of b) + 1) × (above.rows ≡ row_sum rows (tree_of a) + row_sum rows (tree_of b) + rows above.entry) × IsCounted rows a × IsCounted rows b
