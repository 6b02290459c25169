-- What the output of a job has of the edits that it comes to, and the limit that its trees keep.
use Rattle.std.specs.Prelude.{◌≡◌, ℕ, ℤ, List, Ok}
use Rattle.mm_field.specs.declared.Field.{Field}
use Rattle.mm_job.specs.Edits.{block, single}
use Rattle.mm_job.specs.Header.{Session, header, started}
use Rattle.mm_job.specs.Items.{Items, Single, Block, items}
use Rattle.mm_job.specs.Meaning.{answer_line}
use Rattle.mm_job.specs.Output.{output_lines, reply_line}
use Rattle.mm_job.specs.Settings.{Settings}
use Rattle.mm_job_laws.specs.AnswerLaws.{ComesTo, HasLine, IsAsked, IsEdited, IsReplacement, IsWeight}
use Rattle.mm_job_text.specs.Readers.{Read}
use Rattle.mm_lines.specs.Lines.{lines}
use Rattle.mm_lines.specs.declared.line.Line.{Line}
use Rattle.mm_logic.specs.Formula.{Formula}
use Rattle.mm_logic.specs.StateSize.Query.{Decide}
use Rattle.mm_tree.specs.NamedTree.{Tree}
use Rattle.mm_tree.specs.Paths.{Path, with_node, with_weight}

-- Where the items of a text come to another weight of an element, its output has the line that answers it.
abbrev pub OutputAnswersWeights : Type 0
OutputAnswersWeights =
    (settings : Settings) (text : List ℕ) (rest : List Line) (s t : Session) (r : Line) (name : List ℕ) (weight : ℤ) (more : Items)
    → IsAsked settings.question → header settings (lines text) ≡ Read s rest → ComesTo s (items rest) t (Single r more) → IsWeight t r name weight
    → IsEdited t (with_weight name weight t.tree) (single t r) × HasLine (reply_line (single t r)) (output_lines text settings)

-- Where the items of a text come to a new subtree, its output has the line that answers it.
abbrev pub OutputAnswersReplacements : Type 0
OutputAnswersReplacements =
    (settings : Settings) (text : List ℕ) (rest : List Line) (s t : Session) (r : Line) (rs : List Line) (path : Path) (new : Tree) (more : Items)
    → IsAsked settings.question → header settings (lines text) ≡ Read s rest → ComesTo s (items rest) t (Block r rs more) → IsReplacement t r rs path new
    → IsEdited t (with_node t.tree path new) (block t r rs) × HasLine (reply_line (block t r rs)) (output_lines text settings)

-- However the present tree of a job came about, a session begun with it is not refused for its size.
abbrev pub SessionsMayBegin : Type 0
SessionsMayBegin =
    (settings : Settings) (rs rest : List Line) (s t : Session) (j : Items) → header settings rs ≡ Read s rest → ComesTo s (items rest) t j
    → started t ≡ Ok t

-- Whether a formula holds does not depend on weights.
abbrev pub DecisionsIgnoreWeights : Type 0
DecisionsIgnoreWeights =
    (f : Field) (F : Formula) (tree : Tree) (name : List ℕ) (weight : ℤ)
    → answer_line f (Decide F) (with_weight name weight tree) ≡ answer_line f (Decide F) tree
