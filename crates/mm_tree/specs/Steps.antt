-- What one step of each walk over the nodes of a tree finds or changes.
use Rattle.std.specs.Prelude.{ℕ, ℤ, ◌≡◌, ◌<◌, ◌≤◌, ◌+◌, List, Option, None}
use Rattle.std.specs.Option.{is_some}
use Rattle.mm_field.specs.declared.Field.{Field}
use Rattle.mm_tree.specs.NamedTree.{Tree, element_names, is_one_of, nodes}
use Rattle.mm_tree.specs.Nodes.{named, field_of, IsOver}
use Rattle.mm_tree.specs.Places.{path_of}
use Rattle.mm_tree.specs.Paths.{node_at, with_node, with_first_weight}
use Rattle.mm_tree.specs.Weights.{weight_named}
use Rattle.mm_tree.specs.declared.node.Node.{Node}
use Rattle.mm_tree.specs.declared.place.Place.{Place}
use Rattle.mm_tree.specs.declared.place.Reached.{Reached}
use Rattle.mm_tree.specs.declared.place.Reached.TheVariants.{Absent, Above, At}
use Rattle.mm_tree.specs.declared.splice.Sought.{Sought}
use Rattle.mm_tree.specs.declared.splice.Sought.TheVariants.{Here, Beyond}
use Rattle.mm_tree.specs.declared.splice.Spliced.{Spliced}
use Rattle.mm_tree.specs.declared.splice.Spliced.TheVariants as spliced

-- Where no steps are left, the node at hand is the one that was sought.
abbrev pub IsClimbed : Place → ℕ → Reached → Type 0
IsClimbed here steps (Absent passed) = ⊥
IsClimbed here steps (Above left) = (1 ≤ left) × (left ≡ steps)
IsClimbed here steps (At place) = (steps ≡ 0) × (place.number ≡ here.number) × (place.depth ≡ here.depth)

-- A search that finds no leaf passed all nodes, and one that goes on above has a step left.
abbrev pub IsCounted : ℕ → Reached → Type 0
IsCounted n (Absent passed) = passed ≡ n
IsCounted n (Above left) = 1 ≤ left
IsCounted n (At place) = Unit {0}

-- The first element of the name, if there is one, has another weight than before, and all else is as it was.
pub record IsReweighted (name : List ℕ) (weight : ℤ) (old new : Node) (before : Option ℤ) : Type 0 where
  pub found : is_some before ≡ is_one_of name (element_names (named old))
  pub answer : before ≡ weight_named name (named old)
  pub tree : named new ≡ with_first_weight name weight (named old)
  pub over : (f : Field) → IsOver f old → IsOver f new
  pub field : field_of new ≡ field_of old
  pub kept : before ≡ None → new ≡ old

-- The node of a number, or how much of the number is left after the tree.
abbrev pub IsSought : Tree → ℕ → Sought → Type 0
IsSought tree at (Here node) = (at < nodes tree) × (named node.now ≡ node_at tree (path_of at tree))
IsSought tree at (Beyond rest) = at ≡ nodes tree + rest

-- The node of a number was exchanged for another one.
pub record IsExchanged (old now : Node) (at : ℕ) (new out : Node) : Type 0 where
  pub within : at < nodes (named old)
  pub old_part : named out ≡ node_at (named old) (path_of at (named old))
  pub tree : named now ≡ with_node (named old) (path_of at (named old)) (named new)
  pub over : (f : Field) → IsOver f old → IsOver f new → IsOver f now × IsOver f out

-- Where the number is beyond the tree, both nodes are as before, and the rest is what is left of the number.
abbrev pub IsSpliced : (old now : Node) → ℕ → (new out : Node) → Spliced → Type 0
IsSpliced old now at new out spliced.Done = IsExchanged old now at new out
IsSpliced old now at new out (spliced.Beyond rest) = (out ≡ new) × (now ≡ old) × (at ≡ nodes (named old) + rest)
