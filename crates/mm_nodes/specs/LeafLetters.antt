-- What a leaf shows to an automaton.
use Rattle.std.specs.Prelude.{◌≡◌, ℕ, List, Option, Some, None}
use Rattle.mm_states.specs.declared.letter.Letter.{Letter}
use Rattle.mm_tree.specs.declared.node.Item.{Item}
use Rattle.mm_tree.specs.declared.node.Leaf.{Leaf}

-- the vector of the element, if there is one
abbrev pub vec_of : Option Item → Option (List ℕ)
vec_of None = None
vec_of (Some item) = Some item.vec

-- The letter shows the leaf's field, boundary and vector, with these marks.
pub record IsLetterOf (leaf : Leaf) (marks : ℕ) (letter : Letter) : Type 0 where
  pub field : letter.field ≡ leaf.field
  pub boundary : letter.t ≡ leaf.t
  pub vector : letter.vec ≡ vec_of leaf.item
  pub marked : letter.marks ≡ marks
