-- Nodes of a tree, the ways from the root to them, and the tree after an edit at one of them.
use Rattle.std.specs.Prelude.{ℕ, ◌+◌, ℤ, Bool, true, false, List, [], ◌∷◌, ◌++◌, Option, Some, None, if◌then◌else◌}
use Rattle.std.specs.Str.{bytes_eq}
use Rattle.std.specs.List.{list_any}
use Rattle.mm_tree.specs.NamedTree.{Tree, leaf_names, element_names, nodes}
use Rattle.mm_tree.specs.NamedTree.Tree.{Elem, Void, Join}

-- A way from the root of a tree to a node: at each join, whether it goes to the left. Its length is the depth of the node.
abbrev pub Path : Type 0
Path = List Bool

abbrev pub going : Bool → Option Path → Option Path
going left None = None
going left (Some path) = Some (left ∷ path)

abbrev pub first_path : Option Path → Option Path → Option Path
first_path (Some path) other = Some path
first_path None other = other

-- The way to the leaf of a name.
unfoldable pub path_to : List ℕ → Tree → Option Path
path_to name (Elem n vec weight) = if bytes_eq name n then Some [] else None
path_to name (Void n t) = if bytes_eq name n then Some [] else None
path_to name (Join n op left right) = first_path (going true (path_to name left)) (going false (path_to name right))

-- The tree below the node at the end of a way.
unfoldable pub node_at : Tree → Path → Tree
node_at tree [] = tree
node_at (Join n op left right) (true ∷ path) = node_at left path
node_at (Join n op left right) (false ∷ path) = node_at right path
node_at tree (step ∷ path) = tree

-- The number of the node at the end of a way, from 0: each join is counted before its left subtree, and this before the right one.
unfoldable pub number_at : Tree → Path → ℕ
number_at tree [] = 0
number_at (Join n op left right) (true ∷ path) = number_at left path + 1
number_at (Join n op left right) (false ∷ path) = number_at right path + nodes left + 1
number_at tree (step ∷ path) = 0

-- The tree with the node at the end of a way exchanged for another tree.
unfoldable pub with_node : Tree → Path → Tree → Tree
with_node tree [] new = new
with_node (Join n op left right) (true ∷ path) new = Join n op (with_node left path new) right
with_node (Join n op left right) (false ∷ path) new = Join n op left (with_node right path new)
with_node tree (step ∷ path) new = tree

-- The names of the leaves that are not below the node at the end of a way.
unfoldable pub names_outside : Tree → Path → List (List ℕ)
names_outside tree [] = []
names_outside (Join n op left right) (true ∷ path) = names_outside left path ++ leaf_names right
names_outside (Join n op left right) (false ∷ path) = leaf_names left ++ names_outside right path
names_outside tree (step ∷ path) = leaf_names tree

-- The tree with another weight of the element of this name.
unfoldable pub with_weight : List ℕ → ℤ → Tree → Tree
with_weight name weight (Elem n vec old) = if bytes_eq name n then Elem n vec weight else Elem n vec old
with_weight name weight (Void n t) = Void n t
with_weight name weight (Join n op left right) = Join n op (with_weight name weight left) (with_weight name weight right)

-- The tree with another weight of the first element of this name.
unfoldable pub with_first_weight : List ℕ → ℤ → Tree → Tree
with_first_weight name weight (Elem n vec old) = if bytes_eq name n then Elem n vec weight else Elem n vec old
with_first_weight name weight (Void n t) = Void n t
with_first_weight name weight (Join n op left right) =
    if list_any (bytes_eq name) (element_names left) then Join n op (with_first_weight name weight left) right else Join n op left (with_first_weight name weight right)
