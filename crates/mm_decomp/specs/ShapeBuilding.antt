-- What a builder of shapes holds, and what it refuses.
use Rattle.std.specs.Prelude.{ℕ, ◌+◌, ◌≡◌, ◌≤◌, max, nat_le, List, [], ◌∷◌, length, map, reverse, Option, Some, None, Ok, Err, if◌then◌else◌}
use Rattle.std.specs.Vec.{vec_len, vec_capacity}
use Rattle.std.specs.declared.result.Result.{Result}
use Rattle.mm_tree.specs.NamedTree.{is_one_of}
use Rattle.mm_tree.specs.ValidTree.{most_depth}
use Rattle.mm_decomp.specs.Shapes.{Shape, AreSteps, after_steps, depth, leaf_names, most_leaves}
use Rattle.mm_decomp.specs.declared.shape.Step.{Step}
use Rattle.mm_decomp.specs.declared.shape_builder.ShapeBuilder.TheInside.{Inside}
use Rattle.mm_decomp.specs.declared.shape_builder.ShapeFault.{ShapeFault}
use Rattle.mm_decomp.specs.declared.shape_builder.ShapeFault.TheVariants.{NameTaken, TooManyLeaves, TooFew, TooDeep, NoMemory}

-- Why a leaf is not taken: its name is there, or 4096 leaves are.
abbrev pub leaf_fault : List ℕ → List Step → Option ShapeFault
leaf_fault name all =
    if is_one_of name (leaf_names all) then Some (NameTaken name) else (if nat_le most_leaves (length (leaf_names all)) then Some TooManyLeaves else None)

-- Why the last two shapes are not joined.
abbrev pub pair_fault : List Shape → Option ShapeFault
pair_fault [] = Some TooFew
pair_fault (shape ∷ []) = Some TooFew
pair_fault (right ∷ left ∷ shapes) = if nat_le most_depth (max (depth left) (depth right)) then Some TooDeep else None

abbrev pub join_fault : List Step → Option ShapeFault
join_fault all = pair_fault (after_steps [] all)

-- What a call of a builder answers that may need memory, by its fault.
abbrev pub Answers : Result (Unit {0}) ShapeFault → Option ShapeFault → Type 0
Answers (Ok u) fault = fault ≡ None
Answers (Err NoMemory) fault = Unit {0}
Answers (Err e) fault = fault ≡ Some e

-- The same of a call that needs none.
abbrev pub AnswersExactly : Result (Unit {0}) ShapeFault → Option ShapeFault → Type 0
AnswersExactly (Ok u) fault = fault ≡ None
AnswersExactly (Err e) fault = fault ≡ Some e

-- The depths of the shapes that are not joined yet, the last one at the end, and the leaves' names; there is room for as many joins as
-- shapes.
pub record IsKept (b : Inside) : Type 0 where
  pub are_steps : AreSteps b.steps.items
  pub depths : b.depths.items ≡ map depth (reverse (after_steps [] b.steps.items))
  pub names : b.names.keys ≡ leaf_names b.steps.items
  pub room : vec_len b.steps + vec_len b.depths ≤ vec_capacity b.steps
