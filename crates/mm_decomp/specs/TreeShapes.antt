-- The shape of the elements of a tree.
use Rattle.std.specs.Prelude.{◌≡◌, List, [], ◌∷◌, ◌++◌, Bool, Option, Some, None}
use Rattle.std.specs.Option.{is_some}
use Rattle.mm_tree.specs.NamedTree.{Tree}
use Rattle.mm_tree.specs.NamedTree.Tree.{Elem, Void, Join}
use Rattle.mm_decomp.specs.Shapes.{Shape}
use Rattle.mm_decomp.specs.Shapes as shapes
use Rattle.mm_decomp.specs.declared.shape.Step.{Step}
use Rattle.mm_decomp.specs.declared.shape.Step.TheVariants as steps

-- Two shapes joined, or the one that is there.
abbrev pub joined : Option Shape → Option Shape → Option Shape
joined None right = right
joined (Some left) None = Some left
joined (Some left) (Some right) = Some (shapes.Shape.Join left right)

-- The joins over the elements of a tree. A join without elements on one side is its other side.
unfoldable pub element_shape : Tree → Option Shape
element_shape (Elem name vec weight) = Some (shapes.Shape.Leaf name weight)
element_shape (Void name t) = None
element_shape (Join name op left right) = joined (element_shape left) (element_shape right)

-- The steps that make a shape: those of its left side, those of its right side, and the join.
unfoldable pub steps_of : Shape → List Step
steps_of (shapes.Shape.Leaf name weight) = steps.Leaf name weight ∷ []
steps_of (shapes.Shape.Join left right) = steps_of left ++ (steps_of right ++ steps.Join ∷ [])

abbrev pub steps_if : Option Shape → List Step
steps_if None = []
steps_if (Some shape) = steps_of shape

-- The steps of a shape, if there is one, come after the others; and it is said whether there is one.
pub record Follows (shape : Option Shape) (old new : List Step) (some : Bool) : Type 0 where
  pub is_there : some ≡ is_some shape
  pub steps : new ≡ old ++ steps_if shape
