-- What is answered where a tree is built.
use Rattle.std.specs.Prelude.{ℕ, ◌≡◌, true, List, [], ◌∷◌, length, All, Some, None, Ok, Err}
use Rattle.std.specs.List.{IsDistinct}
use Rattle.std.specs.Str.{bytes_eq}
use Rattle.mm_matrix.specs.MatrixValue.{MatrixValue}
use Rattle.mm_tree.specs.NamedTree.{is_one_of}
use Rattle.std.specs.declared.result.Result.{Result}
use Rattle.mm_tree.specs.TreeValue.{TreeValue}
use Rattle.mm_decomp.specs.declared.build.DecompFault.{DecompFault}
use Rattle.mm_decomp.specs.declared.build.DecompFault.TheVariants.{Width, NoMemory}
use Rattle.mm_decomp.specs.declared.shape.Step.{Step}
use Rattle.mm_decomp.specs.Shapes.{Shape, after_steps, leaf_names}
use Rattle.mm_decomp.specs.Spaces.{Given, first_wide}
use Rattle.mm_decomp.specs.BuiltTree.{built}

abbrev pub no_memory : DecompFault
no_memory = NoMemory

-- The built tree where no boundary is above 6, else the first step with such a boundary; memory may be missing at any time.
abbrev pub Builds : Given → Shape → Result TreeValue DecompFault → Type 0
Builds given shape (Ok made) = (first_wide given shape ≡ None) × (made ≡ record { f = given.f; tree = built given 0 [] shape })
Builds given shape (Err (Width step)) = first_wide given shape ≡ Some step
Builds given shape (Err NoMemory) = Unit {0}

-- The same for the shape that has these steps.
abbrev pub BuildsFrom : Given → List Step → Result TreeValue DecompFault → Type 0
BuildsFrom given steps result = (shape : Shape) → after_steps [] steps ≡ shape ∷ [] → Builds given shape result

-- Names and rows as the columns of a matrix.
abbrev pub given_of : List (List ℕ) → MatrixValue → Given
given_of names rows = record { f = rows.f; names = names; rows = rows.rows }

-- The leaves of a shape are the names of the columns, each once.
pub record AreLeaves (names : List (List ℕ)) (rows : MatrixValue) (steps : List Step) : Type 0 where
  pub columns : rows.cols ≡ length names
  pub different : IsDistinct bytes_eq names
  pub given : All (λ name. is_one_of name names ≡ true) (leaf_names steps)
  pub count : length (leaf_names steps) ≡ length names
