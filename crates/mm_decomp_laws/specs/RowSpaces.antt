-- The row space of the tree that is built for a decomposition.
use Rattle.std.specs.Prelude.{◌≡◌, [], length, map}
use Rattle.mm_field.specs.Vectors.{SameRowSpace}
use Rattle.mm_present.specs.Comparing.{in_order, present_rows}
use Rattle.mm_tree.specs.NamedTree.{Tree, element_names}
use Rattle.mm_decomp.specs.BuiltTree.{built}
use Rattle.mm_decomp.specs.Shapes.{Shape, names}
use Rattle.mm_decomp.specs.Spaces.{Given}
use Rattle.mm_decomp_laws.specs.Ranks.{IsOver}

-- The matrix of a tree has the given row space, columns matched by name.
abbrev pub HasRowSpaceOf : Given → Tree → Type 0
HasRowSpaceOf given tree =
    SameRowSpace given.f (length (element_names tree)) (map (in_order given.names (element_names tree)) given.rows) (present_rows given.f tree)

-- The tree that is built for a shape has its leaves as elements, in their order, and the row space of the given rows.
pub record IsBuiltFor (given : Given) (shape : Shape) (tree : Tree) : Type 0 where
  pub elements : element_names tree ≡ names shape
  pub row_space : HasRowSpaceOf given tree

abbrev pub BuiltTreesHaveTheGivenRowSpace : Type 0
BuiltTreesHaveTheGivenRowSpace = (given : Given) (shape : Shape) → IsOver given shape → IsBuiltFor given shape (built given 0 [] shape)
