-- The lines of the text of a decomposition that no header has: each is what it says, or its first refusal.
use Rattle.std.specs.Prelude.{ℕ, nat_abs, ◌==◌, Bool, ◌||◌, List, [], ◌∷◌, ◌++◌, length, codes, Option, Some, None, Ok, if◌then◌else◌}
use Rattle.std.specs.declared.result.Result.{Result}
use Rattle.std.specs.Str.{bytes_eq}
use Rattle.mm_base.specs.Names.{is_name}
use Rattle.mm_lines.specs.Numbers.{i64_of}
use Rattle.mm_lines.specs.declared.line.Line.{Line}
use Rattle.mm_tree.specs.ValidTree.{most_weight}
use Rattle.mm_job_text.specs.Arguments.{args, begins, is_word, one_of, two_of}
use Rattle.mm_job_text.specs.Checks.{◌>>=◌, ◌>>◌, require, found, unless, within}
use Rattle.mm_job_text.specs.declared.refusal.Limit.TheVariants as limit
use Rattle.mm_job_text.specs.declared.refusal.Refusal.{Refusal}
use Rattle.mm_job_text.specs.declared.refusal.Refusal.TheVariants as refusal
use Rattle.mm_decomp.specs.Shapes.{after_steps}
use Rattle.mm_decomp.specs.ShapeBuilding.{leaf_fault, join_fault}
use Rattle.mm_decomp.specs.declared.shape.Step.{Step}
use Rattle.mm_decomp.specs.declared.shape.Step.TheVariants as steps
use Rattle.mm_decomp.specs.declared.build_lines.LeafLine.{LeafLine}
use Rattle.mm_decomp.specs.declared.shape_builder.ShapeFault.{ShapeFault}
use Rattle.mm_decomp.specs.declared.shape_builder.ShapeFault.TheVariants as fault

-- `mso-build 1`
unfoldable pub build_line : Line → Result (Unit {0}) Refusal
build_line r = do
  require (begins (codes "mso-build") r) (refusal.Syntax r.number)
  t ← found (one_of (args r)) (refusal.Syntax r.number)
  require (bytes_eq t (codes "1")) (refusal.Syntax r.number)

-- `shape`
unfoldable pub shape_line : Line → Result (Unit {0}) Refusal
shape_line r = require (is_word (codes "shape") r) (refusal.Syntax r.number)

-- Steps, and the numbers of the lines that give them.
pub record StepLines : Type 0 where
  pub steps : List Step
  pub numbers : List ℕ

-- A step more, in the line with number n.
abbrev pub with_step : StepLines → Step → ℕ → StepLines
with_step s step n = record { steps = s.steps ++ step ∷ []; numbers = s.numbers ++ n ∷ [] }

-- The refusal of the line with number n, by what is at fault with the leaf or the join that it adds.
abbrev pub shape_refusal : ℕ → Option ShapeFault → Option Refusal
shape_refusal n None = None
shape_refusal n (Some (fault.NameTaken name)) = Some (refusal.Taken name)
shape_refusal n (Some fault.TooManyLeaves) = Some (refusal.Over limit.Leaves n)
shape_refusal n (Some fault.TooFew) = Some (refusal.Trees n)
shape_refusal n (Some fault.TooDeep) = Some (refusal.Over limit.Depth n)
shape_refusal n (Some fault.NoMemory) = None

-- `leaf NAME WEIGHT`
unfoldable pub leaf_fields : Line → Result LeafLine Refusal
leaf_fields r = do
  t ← found (two_of (args r)) (refusal.Syntax r.number)
  require (is_name t.0) (refusal.Syntax r.number)
  weight ← found (i64_of t.1) (refusal.Syntax r.number)
  within (nat_abs weight) most_weight limit.Weight r.number
  Ok (record { name = t.0; weight = weight })

unfoldable pub leaf_line : StepLines → Line → Result StepLines Refusal
leaf_line s r = do
  w ← leaf_fields r
  unless (shape_refusal r.number (leaf_fault w.name s.steps))
  Ok (with_step s (steps.Leaf w.name w.weight) r.number)

-- `join`, of the last two shapes
unfoldable pub join_line : StepLines → Line → Result StepLines Refusal
join_line s r = do
  require (is_word (codes "join") r) (refusal.Syntax r.number)
  unless (shape_refusal r.number (join_fault s.steps))
  Ok (with_step s steps.Join r.number)

-- Whether a line is one of a shape, its `end` apart.
abbrev pub is_shape_part : Line → Bool
is_shape_part r = begins (codes "leaf") r || begins (codes "join") r

abbrev pub shape_part : StepLines → Line → Result StepLines Refusal
shape_part s r = if begins (codes "leaf") r then leaf_line s r else join_line s r

-- `end` of a shape: the steps make exactly one
unfoldable pub end_line : StepLines → Line → Result (Unit {0}) Refusal
end_line s r = do
  require (is_word (codes "end") r) (refusal.Syntax r.number)
  require (length (after_steps [] s.steps) == 1) (refusal.Trees r.number)
