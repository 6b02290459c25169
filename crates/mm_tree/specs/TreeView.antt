-- How a tree is kept.
use Rattle.mm_field.specs.declared.Field.{Field}
use Rattle.mm_tree.specs.Nodes.{named, field_of, IsOver}
use Rattle.mm_tree.specs.TreeValue.{TreeValue}
use Rattle.mm_tree.specs.ValidTree.{IsValidTree}
use Rattle.mm_tree.specs.declared.node.Node.{Node}
use Rattle.mm_tree.specs.declared.tree.Tree.TheInside.{Inside}

-- a node over one field that stands for a valid tree
pub record Stands (f : Field) (node : Node) : Type 0 where
  pub over : IsOver f node
  pub valid : IsValidTree f (named node)

abbrev pub value_of : Inside → TreeValue
value_of s = record { f = field_of s.node; tree = named s.node }

abbrev pub IsKept : Inside → Type 0
IsKept s = Stands (field_of s.node) s.node
