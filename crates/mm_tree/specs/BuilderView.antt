-- How a builder is kept.
use Rattle.std.specs.Prelude.{◌≡◌, ◌≤◌, nat_abs, List, length, All, map, reverse}
use Rattle.std.specs.List.{IsDistinct}
use Rattle.std.specs.Str.{bytes_eq}
use Rattle.mm_field.specs.declared.Field.{Field}
use Rattle.mm_logic.specs.Tree.{IsValid}
use Rattle.mm_tree.specs.Building.{BuilderValue, names_in}
use Rattle.mm_tree.specs.NamedTree.{Tree, shape, node_names, weights, depth}
use Rattle.mm_tree.specs.Nodes.{named, named_leaf, IsOver}
use Rattle.mm_tree.specs.ValidTree.{AreNames, most_leaves, most_depth, most_weight}
use Rattle.mm_tree.specs.declared.node.Leaf.{Leaf}
use Rattle.mm_tree.specs.declared.node.Node as nodes_of
use Rattle.mm_tree.specs.declared.builder.StackEntry.{StackEntry}
use Rattle.mm_tree.specs.declared.builder.Builder.TheInside.{Inside}

-- a node that stands for a valid tree, but for the number of its leaves and that their names differ, and the depth of this tree
pub record IsStackEntry (f : Field) (g : StackEntry) : Type 0 where
  pub over : IsOver f g.node.value
  pub valid_shape : IsValid f (shape (named g.node.value))
  pub formed : AreNames (node_names (named g.node.value))
  pub deep : g.depth ≡ depth (named g.node.value)
  pub shallow : g.depth ≤ most_depth
  pub light : All (λ w. nat_abs w ≤ most_weight) (weights (named g.node.value))

-- a leaf over f that is a valid tree: that its name has the right form is known of each name in a leaf
pub record IsGoodLeaf (f : Field) (l : Leaf) : Type 0 where
  pub over : IsOver f (nodes_of.Leaf l)
  pub valid_shape : IsValid f (shape (named_leaf l))
  pub light : All (λ w. nat_abs w ≤ most_weight) (weights (named_leaf l))

abbrev pub tree_of : StackEntry → Tree
tree_of g = named g.node.value

-- the trees of a stack that grows at its end, the last one first
abbrev pub trees_of : List StackEntry → List Tree
trees_of items = reverse (map tree_of items)

abbrev pub value_of : Inside → BuilderValue
value_of s = record { f = s.field; trees = trees_of s.trees.items }

pub record IsKept (s : Inside) : Type 0 where
  pub each : All (λ g. IsStackEntry s.field g) s.trees.items
  pub names : s.names.keys ≡ names_in (trees_of s.trees.items)
  pub different : IsDistinct bytes_eq s.names.keys
  pub few : length s.names.keys ≤ most_leaves
