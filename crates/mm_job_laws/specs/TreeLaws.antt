-- The laws of the nodes of a named tree, and of the weights of its elements.
use Rattle.std.specs.Prelude.{◌≡◌, ◌≤◌, ◌<◌, ℕ, Bool, nat_abs, FitsSigned, List, length}
use Rattle.std.specs.Int.{w64}
use Rattle.mm_field.specs.declared.Field.{Field}
use Rattle.mm_logic.specs.Least.{weight}
use Rattle.mm_logic.specs.Tree.{size, subtrees}
use Rattle.mm_logic_laws.specs.TreeLaws.{subtree}
use Rattle.mm_tree.specs.NamedTree.{Tree, element_names, nodes, shape, weights}
use Rattle.mm_tree.specs.Paths.{Path, node_at, number_at}
use Rattle.mm_tree.specs.Places.{IsPath, path_of}
use Rattle.mm_tree.specs.ValidTree.{IsValidTree}

-- Each element has a name and a weight: there are as many of both as elements.
abbrev pub ElementsAreNamedAndWeighted : Type 0
ElementsAreNamedAndWeighted =
    (tree : Tree) → (length (element_names tree) ≡ size (shape tree)) × (length (weights tree) ≡ size (shape tree))

-- The weight of any set of elements of a valid tree is at most 8192 times 10^12 up and down, and fits an i64.
abbrev pub WeightsOfSetsFit : Type 0
WeightsOfSetsFit =
    (f : Field) (tree : Tree) → IsValidTree f tree → (X : List Bool)
    → (nat_abs (weight (weights tree) X) ≤ 8192000000000000) × FitsSigned w64 (weight (weights tree) X)

-- A tree has one node for each subtree of its shape, and subtree k is the shape of what stands at node k. The subtree with the number of
-- the node at the end of a way is the shape of what stands there.
abbrev pub SubtreesAreOfNodes : Type 0
SubtreesAreOfNodes =
    (tree : Tree)
    → (length (subtrees (shape tree)) ≡ nodes tree)
    × ((k : ℕ) → k < nodes tree → subtree (shape tree) k ≡ shape (node_at tree (path_of k tree)))
    × ((path : Path) → IsPath tree path → subtree (shape tree) (number_at tree path) ≡ shape (node_at tree path))
