-- What the output of a job says where the word `minor` asks a formula.
use Rattle.std.specs.Prelude.{◌≡◌, ◌⊎◌, ◌≤◌, ℕ, List, [], ◌∷◌, codes, None}
use Rattle.mm_field.specs.declared.Field.{Field}
use Rattle.mm_formula.specs.Scope.{IsScoped, slotted}
use Rattle.mm_formula.specs.Syntax.{Syntax}
use Rattle.mm_job.specs.Edits.{Reply, Changed, block, single}
use Rattle.mm_job.specs.Header.{Session, header}
use Rattle.mm_job.specs.Items.{Items, Single, Block, items}
use Rattle.mm_job.specs.Output.{output_lines, reply_line}
use Rattle.mm_job.specs.Settings.{with_formula}
use Rattle.mm_job.specs.declared.output_line.OutputLine.{OutputLine}
use Rattle.mm_job.specs.declared.output_line.OutputLine.TheVariants.{Says}
use Rattle.mm_job_laws.specs.AnswerLaws.{ComesTo, HasLine, IsTruth}
use Rattle.mm_job_text.specs.Readers.{Read}
use Rattle.mm_lines.specs.Lines.{lines}
use Rattle.mm_lines.specs.declared.line.Line.{Line}
use Rattle.mm_logic.specs.Formula.{Formula}
use Rattle.mm_matrix.specs.MatrixValue.{MatrixValue, IsMatrix}
use Rattle.mm_minor.specs.MinorFormula.{minor_formula}
use Rattle.mm_minor.specs.Minors.{HasMinor}
use Rattle.mm_tree.specs.NamedTree.{Tree, shape}

-- What a line says of the present tree over a field.
abbrev pub Telling : Type 1
Telling = Field → Tree → List ℕ → Type 0

-- An item that is done is answered: the output has its line, which tells this of the tree after it.
abbrev pub IsTold : Telling → Reply → List OutputLine → Type 0
IsTold Tells reply output =
    (new : Session) → reply ≡ Changed new
    → (line : List ℕ) × Tells new.f new.tree line × (reply_line reply ≡ Says line) × HasLine (Says line) output

-- The first line tells this of the tree of the header, and each item that is done is answered.
pub record AreTold (Tells : Telling) (s : Session) (rest : List Line) (output : List OutputLine) : Type 0 where
  pub answer : List ℕ
  pub later : List OutputLine
  pub first : output ≡ Says answer ∷ later
  pub told : Tells s.f s.tree answer
  pub singles : (t : Session) (r : Line) (more : Items) → ComesTo s (items rest) t (Single r more) → IsTold Tells (single t r) output
  pub blocks : (t : Session) (r : Line) (rs : List Line) (more : Items) → ComesTo s (items rest) t (Block r rs more) → IsTold Tells (block t r rs) output

-- The line says whether the formula holds.
abbrev pub tells_truth : Formula → Telling
tells_truth F f tree line = IsTruth f F tree line

-- Where the word `minor` asks a formula and the header is read, the output says whether the formula holds, after each edit too.
abbrev pub MinorsAreDecided : Type 0
MinorsAreDecided =
    (limit : ℕ) (F : Syntax) (text : List ℕ) (rest : List Line) (s : Session) → IsScoped F None
    → header (with_formula limit F) (lines text) ≡ Read s rest
    → AreTold (tells_truth (slotted [] F)) s rest (output_lines text (with_formula limit F))

-- The line says whether the matroid of the tree has that of the matrix as a minor.
abbrev pub tells_minor : MatrixValue → Telling
tells_minor n f tree line =
    (HasMinor f (shape tree) n × (line ≡ codes "true")) ⊎ ((HasMinor f (shape tree) n → ⊥) × (line ≡ codes "false"))

-- Where the word `minor` asks the minor formula of a matrix of at most 5 columns, and the header is read, the output says whether the
-- matroid of the present tree has that of the matrix as a minor, after each edit too.
abbrev pub MinorsAreTold : Type 0
MinorsAreTold =
    (limit : ℕ) (n : MatrixValue) (text : List ℕ) (rest : List Line) (s : Session) → IsMatrix n → n.cols ≤ 5
    → header (with_formula limit (minor_formula n)) (lines text) ≡ Read s rest
    → AreTold (tells_minor n) s rest (output_lines text (with_formula limit (minor_formula n)))
