-- Parse trees as users write them: with the names of their leaves and operators, and the weights of their elements.
use Rattle.std.specs.Prelude.{ℕ, ◌+◌, max, ℤ, Bool, List, [], ◌∷◌, ◌++◌, length}
use Rattle.std.specs.List.{list_any}
use Rattle.std.specs.Str.{bytes_eq}
use Rattle.mm_logic.specs.Operator.{Op}
use Rattle.mm_logic.specs.Tree as shapes

-- A leaf with an element, whose name, boundary vector and weight are given; a leaf without an element, with its name and the
-- size of its boundary; or the join of two trees by an operator, whose name is given too.
pub data Tree : Type 0 where
  Elem : (name vec : List ℕ) → (weight : ℤ) → Tree
  Void : (name : List ℕ) → (t : ℕ) → Tree
  Join : (name : List ℕ) → (op : Op) → (left right : Tree) → Tree

-- The tree without its names and weights.
unfoldable pub shape : Tree → shapes.Tree
shape (Elem name vec weight) = shapes.Tree.Elem vec
shape (Void name t) = shapes.Tree.Void t
shape (Join name op left right) = shapes.Tree.Join op (shape left) (shape right)

-- How many digits the boundary of a tree has.
unfoldable pub boundary : Tree → ℕ
boundary (Elem name vec weight) = length vec
boundary (Void name t) = t
boundary (Join name op left right) = op.t3

-- The names of the leaves, from left to right.
unfoldable pub leaf_names : Tree → List (List ℕ)
leaf_names (Elem name vec weight) = name ∷ []
leaf_names (Void name t) = name ∷ []
leaf_names (Join name op left right) = leaf_names left ++ leaf_names right

-- The names of the nodes: of the leaves, and of the operators of the joins.
unfoldable pub node_names : Tree → List (List ℕ)
node_names (Elem name vec weight) = name ∷ []
node_names (Void name t) = name ∷ []
node_names (Join name op left right) = name ∷ (node_names left ++ node_names right)

-- The names of the elements, in leaf order.
unfoldable pub element_names : Tree → List (List ℕ)
element_names (Elem name vec weight) = name ∷ []
element_names (Void name t) = []
element_names (Join name op left right) = element_names left ++ element_names right

-- The weights of the elements, in leaf order.
unfoldable pub weights : Tree → List ℤ
weights (Elem name vec weight) = weight ∷ []
weights (Void name t) = []
weights (Join name op left right) = weights left ++ weights right

-- How many joins stand above the deepest leaf.
unfoldable pub depth : Tree → ℕ
depth (Elem name vec weight) = 0
depth (Void name t) = 0
depth (Join name op left right) = max (depth left) (depth right) + 1

-- How many nodes a tree has, leaves and joins together.
unfoldable pub nodes : Tree → ℕ
nodes (Elem name vec weight) = 1
nodes (Void name t) = 1
nodes (Join name op left right) = nodes left + nodes right + 1

-- whether a name is one of some names
abbrev pub is_one_of : List ℕ → List (List ℕ) → Bool
is_one_of name names = list_any (bytes_eq name) names
