-- The text of a decomposition: names, rows and a shape.
use Rattle.std.specs.Prelude.{ℕ, Bool, true, false, List, [], ◌∷◌, length, codes, Ok, Err}
use Rattle.std.specs.Option.{option_map, option_or}
use Rattle.std.specs.declared.result.Result.{Result}
use Rattle.mm_field.specs.declared.Field.{Field}
use Rattle.mm_lines.specs.Lines.{is_over, lines}
use Rattle.mm_lines.specs.declared.line.Line.{Line}
use Rattle.mm_present.specs.Comparing.{first_missing}
use Rattle.mm_job_text.specs.Arguments.{begins}
use Rattle.mm_job_text.specs.Checks.{unless}
use Rattle.mm_job_text.specs.Checks.{◌>>=◌ as ◌and_then◌, ◌>>◌ as ◌and◌}
use Rattle.mm_job_text.specs.HeaderLines.{field_line, elements_line, row_line}
use Rattle.mm_job_text.specs.Readers.{Reading, Read, Refused, Short, Reader, ◌>>=◌, ◌>>◌, line, each}
use Rattle.mm_job_text.specs.declared.refusal.Refusal.{Refusal}
use Rattle.mm_job_text.specs.declared.refusal.Refusal.TheVariants as refusal
use Rattle.mm_decomp.specs.BuildLines.{StepLines, build_line, shape_line, shape_part, is_shape_part, end_line}
use Rattle.mm_decomp.specs.Shapes.{leaf_names, most_leaves}
use Rattle.mm_decomp.specs.Spaces.{Given}

-- What a text gives: names and rows, and the steps of a shape with the numbers of their lines.
pub record Decomposition : Type 0 where
  pub given : Given
  pub shape : StepLines

-- There is no line after this one.
abbrev pub no_line : Line → Result (Unit {0}) Refusal
no_line r = Err (refusal.Syntax r.number)

unfoldable pub nothing_after : {A : Type 0} → A → Reader A
nothing_after x [] = Read x []
nothing_after x (r ∷ rs) = (line no_line >> λ rest. Read x rest) (r ∷ rs)

-- The lines of a shape after these steps, and its `end`.
unfoldable pub steps_part : Given → StepLines → Reader Decomposition
steps_part given s = do
  all ← each is_shape_part shape_part s
  line (end_line all)
  nothing_after (record { given = given; shape = all })

unfoldable pub rows_part : Given → Reader Decomposition
rows_part given = do
  rows ← each (begins (codes "row")) (row_line given.f (length given.names)) given.rows
  line shape_line
  steps_part (record given { rows = rows }) (record { steps = []; numbers = [] })

-- There are at most as many names as a shape has leaves.
unfoldable pub names_part : Field → List (List ℕ) → Reader Decomposition
names_part f old = do
  names ← each (begins (codes "elements")) (elements_line most_leaves) old
  rows_part (record { f = f; names = names; rows = [] })

unfoldable pub field_part : Reader Decomposition
field_part = do
  f ← line field_line
  names_part f []

-- All lines of a text.
unfoldable pub build_parts : Reader Decomposition
build_parts = do
  line build_line
  field_part

-- What is read of all lines of a text: the refusal of the first faulty line comes first, then that of a text of too many bytes, and
-- then that of one that ends too early.
abbrev pub at_end : {A : Type 0} → Bool → Reading A → Result A Refusal
at_end over (Refused e) = Err e
at_end true (Read x rest) = Err refusal.TooLong
at_end false (Read x rest) = Ok x
at_end true Short = Err refusal.TooLong
at_end false Short = Err refusal.Unfinished

-- The names are those of the leaves: the first name that no leaf has is refused, and else the first leaf that has none of the names.
abbrev pub same_names : Decomposition → Result Decomposition Refusal
same_names d =
    let names = d.given.names in
    let leaves = leaf_names d.shape.steps in
    (unless (option_map refusal.Elements (option_or (first_missing names leaves) (first_missing leaves names)))) and (Ok d)

-- What is read of all lines, and its names compared.
abbrev pub read_at_end : Bool → Reading Decomposition → Result Decomposition Refusal
read_at_end over reading = (at_end over reading) and_then same_names

-- The decomposition that a text gives, or the text's refusal.
unfoldable pub decomposition_of : List ℕ → Result Decomposition Refusal
decomposition_of text = read_at_end (is_over text) (build_parts (lines text))
