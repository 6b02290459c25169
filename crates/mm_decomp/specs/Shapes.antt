-- A decomposition: a binary tree whose leaves are the elements, and its steps.
use Rattle.std.specs.Prelude.{ℕ, ◌≡◌, ◌≤◌, ◌+◌, max, ℤ, nat_abs, List, [], ◌∷◌, ◌++◌, length, All}
use Rattle.std.specs.List.{IsDistinct}
use Rattle.std.specs.Str.{bytes_eq}
use Rattle.mm_tree.specs.ValidTree.{most_depth, most_weight}
use Rattle.mm_decomp.specs.declared.shape.TheConstants.{MAX_LEAVES}
use Rattle.mm_decomp.specs.declared.shape.Step.{Step}
use Rattle.mm_decomp.specs.declared.shape.Step.TheVariants as steps

pub data Shape : Type 0 where
  Leaf : (name : List ℕ) → (weight : ℤ) → Shape
  Join : (left right : Shape) → Shape

-- The names of the leaves, from left to right.
unfoldable pub names : Shape → List (List ℕ)
names (Leaf name weight) = name ∷ []
names (Join left right) = names left ++ names right

-- How many joins there are.
unfoldable pub joins : Shape → ℕ
joins (Leaf name weight) = 0
joins (Join left right) = joins left + joins right + 1

-- How many joins stand above the deepest leaf.
unfoldable pub depth : Shape → ℕ
depth (Leaf name weight) = 0
depth (Join left right) = max (depth left) (depth right) + 1

-- The shapes after one step more, the last one first: a leaf, or the last two joined, the last one on the right. A join that finds
-- fewer than two changes nothing.
abbrev pub after_step : List Shape → Step → List Shape
after_step shapes (steps.Leaf name weight) = Leaf name weight ∷ shapes
after_step (right ∷ left ∷ shapes) steps.Join = Join left right ∷ shapes
after_step (shape ∷ []) steps.Join = shape ∷ []
after_step [] steps.Join = []

-- The shapes after some steps.
abbrev pub after_steps : List Shape → List Step → List Shape
after_steps shapes [] = shapes
after_steps shapes (step ∷ more) = after_steps (after_step shapes step) more

-- The names of the leaves among some steps, in their order.
abbrev pub leaf_names : List Step → List (List ℕ)
leaf_names [] = []
leaf_names (steps.Leaf name weight ∷ more) = name ∷ leaf_names more
leaf_names (steps.Join ∷ more) = leaf_names more

-- Each join finds two shapes or more.
abbrev pub FindTwo : List Shape → List Step → Type 0
FindTwo shapes [] = Unit {0}
FindTwo shapes (steps.Leaf name weight ∷ more) = FindTwo (after_step shapes (steps.Leaf name weight)) more
FindTwo shapes (steps.Join ∷ more) = (2 ≤ length shapes) × FindTwo (after_step shapes steps.Join) more

-- The weights of leaves are from -10^12 to 10^12.
abbrev pub IsLight : Step → Type 0
IsLight (steps.Leaf name weight) = nat_abs weight ≤ most_weight
IsLight steps.Join = Unit {0}

-- the most leaves of a shape
abbrev pub most_leaves : ℕ
most_leaves = MAX_LEAVES

-- Steps that make shapes: at most 4096 leaves with different names, none deeper than 1023.
pub record AreSteps (all : List Step) : Type 0 where
  pub find_two : FindTwo [] all
  pub light : All (λ step. IsLight step) all
  pub different : IsDistinct bytes_eq (leaf_names all)
  pub few : length (leaf_names all) ≤ most_leaves
  pub shallow : All (λ shape. depth shape ≤ most_depth) (after_steps [] all)

-- Steps that make one shape.
pub record IsShape (all : List Step) : Type 0 where
  pub are_steps : AreSteps all
  pub one : length (after_steps [] all) ≡ 1
