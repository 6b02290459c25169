-- What each step does to a tree while it is built: between the code and the definitions.
use Rattle.std.specs.Prelude.{ℕ, ◌+◌, ◌-◌, ◌<◌, ◌≡◌, ◌≤◌, ℤ, List, [], ◌∷◌, ◌++◌, length, reverse, take, slice_index_or, All, Ok, Err, Some, false, max, nat_le, nat_lt}
use Rattle.std.specs.List.{position}
use Rattle.std.specs.declared.result.Result.{Result}
use Rattle.mm_field.specs.declared.Field.{Field}
use Rattle.mm_linear.specs.ReducedEchelon.{IsReducedBasis}
use Rattle.mm_matrix.specs.MatrixValue.{MatrixValue}
use Rattle.mm_tree.specs.Building.{joined}
use Rattle.mm_tree.specs.NamedTree.{Tree, boundary, depth}
use Rattle.mm_tree.specs.ValidTree.{most_depth}
use Rattle.mm_tree.specs.TreeValue.{TreeValue}
use Rattle.mm_decomp.specs.BuiltTree.{built_operator, join_name}
use Rattle.mm_decomp.specs.Forms.{HasSizes, IsJoinForm}
use Rattle.mm_decomp.specs.Shapes.{Shape, after_steps, leaf_names}
use Rattle.mm_decomp.specs.Shapes.Shape.{Leaf, Join}
use Rattle.mm_decomp.specs.Stack.{LeafColumns, AreFormsOf, boundaries_in, found_boundaries, found_space, joins_in, leaves_in, made_tree, made_trees}
use Rattle.mm_decomp.specs.declared.build.Building.{Building}
use Rattle.mm_decomp.specs.declared.build.DecompFault.{DecompFault}
use Rattle.mm_decomp.specs.declared.build.DecompFault.TheVariants as faults
use Rattle.mm_decomp.specs.declared.build.Joined.{Joined}
use Rattle.mm_decomp.specs.declared.shape.Step.{Step}
use Rattle.mm_decomp.specs.declared.form.Form.{Form}

-- What the leaves' vectors and columns are.
abbrev pub leaf_columns_of : (functionals columns : MatrixValue) → LeafColumns
leaf_columns_of functionals columns = record { f = columns.f; k = functionals.cols; g = columns.cols; hs = functionals.rows; ms = columns.rows }

-- What is kept of the shapes that are not joined yet.
pub record IsBuilding (c : LeafColumns) (shapes : List Shape) (b : Building) : Type 0 where
  pub field : b.field ≡ c.f
  pub builder_field : b.builder.f ≡ c.f
  pub trees : b.builder.trees ≡ made_trees c shapes
  pub forms : AreFormsOf c shapes (reverse b.forms.items)
  pub leaves : b.leaves ≡ leaves_in shapes
  pub joins : b.joins ≡ joins_in shapes
  pub narrow : All (λ t. t ≤ 6) (boundaries_in c shapes)

-- Two forms that may be joined.
pub record Fit (left right : Form) : Type 0 where
  pub left_sizes : HasSizes left.basis.f left.functionals.cols left.basis.cols left
  pub right_sizes : HasSizes left.basis.f left.functionals.cols left.basis.cols right
  pub left_reduced : IsReducedBasis left.basis.f left.basis.cols left.basis.rows
  pub right_reduced : IsReducedBasis left.basis.f left.basis.cols right.basis.rows
  pub left_few : length left.basis.rows ≤ 6
  pub right_few : length right.basis.rows ≤ 6

-- The last two forms may be joined.
abbrev pub LastFit : List Form → Type 0
LastFit (right ∷ left ∷ forms) = Fit left right
LastFit _ = ⊥

-- The last two trees have the boundaries of the last two forms, and may be joined.
abbrev pub TreesFit : List Form → List Tree → Type 0
TreesFit (right ∷ left ∷ forms) (r ∷ l ∷ trees) =
    (boundary l ≡ length left.basis.rows) × (boundary r ≡ length right.basis.rows) × (nat_le most_depth (max (depth l) (depth r)) ≡ false)
TreesFit _ _ = ⊥

-- The form of a join, and its operator; the step of the join where its boundary is above 6.
pub record IsWide (left right : Form) : Type 0 where
  pub form : Form
  pub is_form : IsJoinForm left.basis.f left.functionals.cols left.basis.cols left right form
  pub wide : 6 < length form.basis.rows

pub record IsJoined (left right : Form) (joined : Joined) : Type 0 where
  pub is_form : IsJoinForm left.basis.f left.functionals.cols left.basis.cols left right joined.form
  pub narrow : length joined.form.basis.rows ≤ 6
  pub operator : joined.op ≡ record {
    f = left.basis.f;
    op = built_operator left.basis.f left.basis.cols joined.form.basis.rows left.basis.rows right.basis.rows;
  }

abbrev pub Joins : (left right : Form) → ℕ → Result Joined DecompFault → Type 0
Joins left right step (Ok joined) = IsJoined left right joined
Joins left right step (Err (faults.Width wide)) = (wide ≡ step) × IsWide left right
Joins left right step (Err faults.NoMemory) = Unit {0}

-- The forms are over this field.
abbrev pub AreOf : Field → List Form → Type 0
AreOf f forms = All (λ form. form.basis.f ≡ f) forms

-- A join is put in the place of the last two trees and forms, with a name by its number.
pub record PutsJoin (old new : Building) (made : Joined) : Type 0 where
  pub field : new.field ≡ old.field
  pub builder : new.builder ≡ record old.builder { trees = joined (join_name (old.joins + 1)) made.op old.builder.trees }
  pub forms : new.forms.items ≡ take (length old.forms.items - 2) old.forms.items ++ made.form ∷ []
  pub leaves : new.leaves ≡ old.leaves
  pub joins : new.joins ≡ old.joins + 1

-- A leaf is added with its vector and its column.
abbrev pub AddsLeaf : (old new : Building) → (functional column name : List ℕ) → ℤ → Type 0
AddsLeaf old new functional column name weight =
    (c : LeafColumns) (shapes : List Shape) → IsBuilding c shapes old → leaves_in shapes < length c.hs → leaves_in shapes < length c.ms
    → functional ≡ slice_index_or c.hs (leaves_in shapes) [] → column ≡ slice_index_or c.ms (leaves_in shapes) []
    → length functional ≡ c.k → length column ≡ c.g → IsBuilding c (Leaf name weight ∷ shapes) new

-- The last two shapes are joined, or the boundary of their join is above 6.
abbrev pub JoinsLast : (old new : Building) → ℕ → Result (Unit {0}) DecompFault → Type 0
JoinsLast old new step (Ok u) =
    (c : LeafColumns) (left right : Shape) (shapes : List Shape) → IsBuilding c (right ∷ left ∷ shapes) old
    → IsBuilding c (Join left right ∷ shapes) new
JoinsLast old new step (Err (faults.Width wide)) =
    (wide ≡ step) × ((c : LeafColumns) (left right : Shape) (shapes : List Shape) → IsBuilding c (right ∷ left ∷ shapes) old
    → 6 < length (found_space c (leaves_in shapes) (Join left right)))
JoinsLast old new step (Err faults.NoMemory) = Unit {0}

-- Nothing was made yet.
pub record IsNew (f : Field) (b : Building) : Type 0 where
  pub field : b.field ≡ f
  pub builder : (b.builder.f ≡ f) × (b.builder.trees ≡ [])
  pub forms : b.forms.items ≡ []
  pub leaves : b.leaves ≡ 0
  pub joins : b.joins ≡ 0

-- There is a vector and a column for each leaf.
pub record AreColumnsFor (functionals columns : MatrixValue) (steps : List Step) : Type 0 where
  pub field : functionals.f ≡ columns.f
  pub count : length functionals.rows ≡ length (leaf_names steps)
  pub count_columns : length columns.rows ≡ length (leaf_names steps)

-- The boundary of the last shape.
abbrev pub last_boundary : LeafColumns → List Shape → ℕ
last_boundary c [] = 0
last_boundary c (shape ∷ shapes) = length (found_space c (leaves_in shapes) shape)

-- After step i its node is made, or it is the first whose boundary is above 6.
abbrev pub TakesStep : LeafColumns → List Step → ℕ → Building → Result (Unit {0}) DecompFault → Type 0
TakesStep c steps i new (Ok u) = IsBuilding c (after_steps [] (take (i + 1) steps)) new
TakesStep c steps i new (Err (faults.Width wide)) =
    (wide ≡ i) × All (λ t. t ≤ 6) (boundaries_in c (after_steps [] (take i steps))) × (6 < last_boundary c (after_steps [] (take (i + 1) steps)))
TakesStep c steps i new (Err faults.NoMemory) = Unit {0}

-- The tree of a shape that begins at the first leaf, where all boundaries are at most 6, else the first step with a boundary above 6.
abbrev pub Makes : LeafColumns → Shape → Result TreeValue DecompFault → Type 0
Makes c shape (Ok made) = All (λ t. t ≤ 6) (found_boundaries c 0 shape) × (made ≡ record { f = c.f; tree = made_tree c 0 0 shape })
Makes c shape (Err (faults.Width wide)) = position (λ t. nat_lt 6 t) (found_boundaries c 0 shape) ≡ Some wide
Makes c shape (Err faults.NoMemory) = Unit {0}

abbrev pub MakesTree : LeafColumns → List Step → Result TreeValue DecompFault → Type 0
MakesTree c steps result = (shape : Shape) → after_steps [] steps ≡ shape ∷ [] → Makes c shape result
