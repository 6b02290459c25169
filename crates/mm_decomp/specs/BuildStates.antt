-- Between code and definitions: what the state of a decomposition's text makes of the lines that are left, and what it keeps.
use Rattle.std.specs.Prelude.{ℕ, ◌≡◌, [], length}
use Rattle.std.specs.List.{IsDistinct}
use Rattle.std.specs.Str.{bytes_eq}
use Rattle.mm_job_text.specs.Readers.{Reader}
use Rattle.mm_job_text.specs.declared.refusal.Limit.TheVariants as limit
use Rattle.mm_job_text.specs.declared.refusal.Refusal.TheVariants as refusal
use Rattle.mm_job_text.specs.declared.refusal.Stop.{Stop}
use Rattle.mm_job_text.specs.declared.refusal.Stop.TheVariants as stop
use Rattle.mm_decomp.specs.BuildLines.{StepLines}
use Rattle.mm_decomp.specs.Decompositions.{Decomposition, build_parts, field_part, names_part, rows_part, steps_part, nothing_after}
use Rattle.mm_decomp.specs.Shapes.{after_steps}
use Rattle.mm_decomp.specs.Spaces.{Given}
use Rattle.mm_decomp.specs.declared.build_state.BuildState.{BuildState}
use Rattle.mm_decomp.specs.declared.build_state.Stage.{Stage}
use Rattle.mm_decomp.specs.declared.build_state.Stage.TheVariants as stage
use Rattle.mm_decomp.specs.declared.shape_builder.ShapeFault.{ShapeFault}
use Rattle.mm_decomp.specs.declared.shape_builder.ShapeFault.TheVariants as fault
use Rattle.mm_decomp.specs.declared.step_lines.Steps as code

-- Why the line with number n stops, by what a builder of shapes answers.
abbrev pub stop_of : ℕ → ShapeFault → Stop
stop_of n (fault.NameTaken name) = stop.Refused (refusal.Taken name)
stop_of n fault.TooManyLeaves = stop.Refused (refusal.Over limit.Leaves n)
stop_of n fault.TooFew = stop.Refused (refusal.Trees n)
stop_of n fault.TooDeep = stop.Refused (refusal.Over limit.Depth n)
stop_of n fault.NoMemory = stop.NoMemory

abbrev pub step_lines : code.Steps → StepLines
step_lines s = record { steps = s.builder; numbers = s.numbers.items }

abbrev pub given_in : BuildState → Given
given_in s = record { f = s.field; names = s.names; rows = s.rows.rows }

-- What the lines that are left make of what was read so far.
abbrev pub parts_at : Stage → BuildState → Reader Decomposition
parts_at stage.First s = build_parts
parts_at stage.Field s = field_part
parts_at stage.Names s = names_part s.field s.names
parts_at stage.Rows s = rows_part (given_in s)
parts_at stage.Steps s = steps_part (given_in s) (step_lines s.steps)
parts_at stage.End s = nothing_after (record { given = given_in s; shape = step_lines s.steps })

abbrev pub parts_from : BuildState → Reader Decomposition
parts_from s = parts_at s.stage s

-- The names are different, and the rows are over the field and the names.
pub record IsGiven (s : BuildState) : Type 0 where
  pub different : IsDistinct bytes_eq s.names
  pub field : s.rows.f ≡ s.field
  pub cols : s.rows.cols ≡ length s.names

-- What is kept at a stage.
abbrev pub IsKeptAt : Stage → BuildState → Type 0
IsKeptAt stage.First s = Unit {0}
IsKeptAt stage.Field s = Unit {0}
IsKeptAt stage.Names s = IsDistinct bytes_eq s.names
IsKeptAt stage.Rows s = IsGiven s
IsKeptAt stage.Steps s = IsGiven s
IsKeptAt stage.End s = IsGiven s × (length (after_steps [] s.steps.builder) ≡ 1)

abbrev pub IsKept : BuildState → Type 0
IsKept s = IsKeptAt s.stage s
