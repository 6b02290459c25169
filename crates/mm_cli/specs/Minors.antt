-- What `minor` asks of a job, and what the answers say.
use Rattle.std.specs.Prelude.{ℕ, ◌≡◌, List, Option, Some}
use Rattle.mm_matrix.specs.MatrixValue.{MatrixValue}
use Rattle.mm_minor.specs.MinorFormula.{minor_formula}
use Rattle.mm_lines.specs.Lines.{lines}
use Rattle.mm_lines.specs.declared.line.Line.{Line}
use Rattle.mm_job_text.specs.Readers.{Read}
use Rattle.mm_job.specs.Header.{Session, header}
use Rattle.mm_job.specs.Output.{output_lines}
use Rattle.mm_job.specs.Settings.{Settings, with_formula}
use Rattle.mm_job_laws.specs.MinorLaws.{AreTold, tells_minor}
use Rattle.mm_cli.specs.Words.{columns_of, most_limit}
use Rattle.mm_cli.specs.declared.words.Command.{Command}
use Rattle.mm_cli.specs.declared.words.Command.TheVariants.{Minor}
use Rattle.mm_cli.specs.declared.words.MinorMatrix.{MinorMatrix}

-- The matrix that the words show.
abbrev pub matrix_in : MinorMatrix → MatrixValue
matrix_in m = record { f = m.field; cols = columns_of m.rows; rows = m.rows }

-- The line `minor` asks the minor formula of the matrix.
abbrev pub minor_settings : MinorMatrix → Settings
minor_settings m = with_formula most_limit (minor_formula (matrix_in m))

-- Where the words ask for a minor, the output of the job in the source says whether the matroid of the present tree has that of the matrix as
-- a minor: in its first line, where the header is read, and in the line of each edit that is done.
abbrev pub TellMinors : Option Command → (left : Option (List ℕ)) → Type 0
TellMinors (Some (Minor m)) (Some text) =
    (rest : List Line) (s : Session) → header (minor_settings m) (lines text) ≡ Read s rest
    → AreTold (tells_minor (matrix_in m)) s rest (output_lines text (minor_settings m))
TellMinors command left = Unit {0}
