-- The named tree that a node stands for.
use Rattle.std.specs.Prelude.{ℕ, ◌≡◌, ℤ, List, Option, Some, None}
use Rattle.mm_field.specs.declared.Field.{Field}
use Rattle.mm_tree.specs.NamedTree.{Tree, boundary}
use Rattle.mm_tree.specs.NamedTree.Tree.{Elem, Void, Join}
use Rattle.mm_tree.specs.declared.node.Item.{Item}
use Rattle.mm_tree.specs.declared.node.Leaf as leaves
use Rattle.mm_tree.specs.declared.node.Node as nodes

-- a leaf with or without an element
abbrev pub named_leaf : leaves.Leaf → Tree
named_leaf l = leaf_of l.name l.t l.item
  where
    leaf_of : List ℕ → ℕ → Option Item → Tree
    leaf_of name t None = Void name t
    leaf_of name t (Some item) = Elem name item.vec item.weight

unfoldable pub named : nodes.Node → Tree
named (nodes.Leaf l) = named_leaf l
named (nodes.Join' name op p l q r) = Join name op.op (named l) (named r)

-- the field of the first leaf or operator
unfoldable pub field_of : nodes.Node → Field
field_of (nodes.Leaf l) = l.field
field_of (nodes.Join' name op p l q r) = op.f

-- Every leaf and every operator is over f, and each leaf is given the boundary that it has.
unfoldable pub IsOver : Field → nodes.Node → Type 0
IsOver f (nodes.Leaf l) = (l.field ≡ f) × (l.t ≡ boundary (named_leaf l))
IsOver f (nodes.Join' name op p l q r) = (op.f ≡ f) × IsOver f l × IsOver f r

abbrev pub item_with : ℤ → Option Item → Option Item
item_with weight None = None
item_with weight (Some item) = Some (record item { weight = weight })

-- a leaf with another weight of its element
abbrev pub reweighted : ℤ → leaves.Leaf → leaves.Leaf
reweighted weight l = record l { item = item_with weight l.item }
