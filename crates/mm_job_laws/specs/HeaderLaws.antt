-- When the header of a job is refused for its rows.
use Rattle.std.specs.Prelude.{◌≡◌, ◌↔◌, ℕ, List, [], ◌∷◌, length, Ok}
use Rattle.std.specs.List.{AllByRecursion, IsDistinct}
use Rattle.std.specs.Str.{bytes_eq}
use Rattle.mm_field.specs.declared.Field.{Field}
use Rattle.mm_field.specs.Vectors.{AreVectors}
use Rattle.mm_header.specs.Header.{Parts, parts}
use Rattle.mm_header.specs.Queries.{query_line}
use Rattle.mm_header.specs.Rules.{job_rules}
use Rattle.mm_header.specs.declared.rules.HeaderRules.{HeaderRules}
use Rattle.mm_job.specs.Header.{Session, header}
use Rattle.mm_job.specs.Output.{output_lines}
use Rattle.mm_job.specs.Settings.{Settings}
use Rattle.mm_job.specs.declared.output_line.OutputLine.{OutputLine}
use Rattle.mm_job.specs.declared.output_line.OutputLine.TheVariants.{Refuses}
use Rattle.mm_job_laws.specs.Agreement.{Agrees}
use Rattle.mm_lines.specs.Lines.{lines}
use Rattle.mm_lines.specs.declared.line.Line.{Line}
use Rattle.mm_logic.specs.Operator.{IsValidOp}
use Rattle.mm_logic.specs.StateSize.{IsOver, Query}
use Rattle.mm_ops.specs.OpValue.{OpValue}
use Rattle.mm_ops.specs.Tables.{OperatorList}
use Rattle.mm_tree.specs.NamedTree.{shape}
use Rattle.mm_present.specs.Comparing.{Named}
use Rattle.mm_tree.specs.ValidTree.{IsValidTree}
use Rattle.mm_job_text.specs.Readers.{Reading, Read, Refused, Short, whole}
use Rattle.mm_job_text.specs.declared.refusal.Refusal.{Refusal}
use Rattle.mm_job_text.specs.declared.refusal.Refusal.TheVariants as refusal

-- The names of the given rows, and the rows.
abbrev pub given_of : Parts → Named
given_of p = record { names = p.0.names; rows = p.0.rows }

-- Each operator is valid.
abbrev pub AreValidOps : Field → OperatorList → Type 0
AreValidOps f ops = AllByRecursion (λ (entry : List ℕ × OpValue). IsValidOp f entry.1.op) ops

-- The given names are all different, each given row has a digit for each of them, and the operators and the tree are valid.
pub record AreSound (p : Parts) : Type 0 where
  pub different : IsDistinct bytes_eq p.0.names
  pub vectors : AreVectors p.0.f (length p.0.names) p.0.rows
  pub ops : AreValidOps p.0.f p.0.ops
  pub tree : IsValidTree p.0.f p.1

-- The lines before the query of a header, whatever its limits, where none is faulty, give different names, rows over them and a valid tree.
abbrev pub LinesAreSound : Type 0
LinesAreSound = (rules : HeaderRules) (rs rest : List Line) (p : Parts) → parts rules rs ≡ Read p rest → AreSound p

-- One of the refusals `elements NAME`, `rowspace given I` and `rowspace tree J`.
abbrev pub IsRowRefusal : Refusal → Type 0
IsRowRefusal (refusal.Elements name) = Unit {0}
IsRowRefusal (refusal.Given i) = Unit {0}
IsRowRefusal (refusal.Present j) = Unit {0}
IsRowRefusal why = ⊥

-- A header is refused for its rows.
abbrev pub IsRefusedForRows : Reading Session → Type 0
IsRefusedForRows (Refused why) = IsRowRefusal why
IsRefusedForRows (Read s rest) = ⊥
IsRefusedForRows Short = ⊥

-- What a job answers about, where the rows agree with the tree.
abbrev pub session_of : ℕ → Parts → Query → Session
session_of limit p query = record { f = p.0.f; ops = p.0.ops; query = query; limit = limit; tree = p.1 }

-- What is read is a refusal of the rows exactly where they do not agree with the tree. Where they agree, it is `states` where the tree is
-- over the limit, and else the session with this tree, and the lines after the query.
pub record IsDecidedByAgreement (limit : ℕ) (p : Parts) (query : Query) (rest : List Line) (read : Reading Session) : Type 0 where
  pub refused : IsRefusedForRows read ↔ (Agrees p.0.f (given_of p) p.1 → ⊥)
  pub over : Agrees p.0.f (given_of p) p.1 → IsOver p.0.f query (shape p.1) limit → read ≡ Refused refusal.States
  pub within : Agrees p.0.f (given_of p) p.1 → (IsOver p.0.f query (shape p.1) limit → ⊥) → read ≡ Read (session_of limit p query) rest

-- Where no line of a header up to its query is faulty, agreement and then the size of the tree decide what is made of it.
abbrev pub RowsAreRefusedExactly : Type 0
RowsAreRefusedExactly =
    (settings : Settings) (rs rest : List Line) (r : Line) (p : Parts) (query : Query) → parts job_rules rs ≡ Read p (r ∷ rest)
    → whole (query_line settings.question) r ≡ Ok query → IsDecidedByAgreement settings.limit p query rest (header settings rs)

-- Nothing is written but one line, which refuses the rows.
abbrev pub IsRowRefusalAlone : List OutputLine → Type 0
IsRowRefusalAlone (Refuses why ∷ []) = IsRowRefusal why
IsRowRefusalAlone output_line = ⊥

-- Where no line of a job up to its query is faulty, its output is one line that refuses the rows exactly where they do not agree
-- with the tree.
abbrev pub OutputRefusesRowsExactly : Type 0
OutputRefusesRowsExactly =
    (settings : Settings) (text : List ℕ) (rest : List Line) (r : Line) (p : Parts) (query : Query) → parts job_rules (lines text) ≡ Read p (r ∷ rest)
    → whole (query_line settings.question) r ≡ Ok query
    → IsRowRefusalAlone (output_lines text settings) ↔ (Agrees p.0.f (given_of p) p.1 → ⊥)

-- Where no line of a job up to its query is faulty and its rows agree with its tree, its output is the one line `states` exactly where
-- the tree is over the limit.
abbrev pub OutputRefusesSizeExactly : Type 0
OutputRefusesSizeExactly =
    (settings : Settings) (text : List ℕ) (rest : List Line) (r : Line) (p : Parts) (query : Query) → parts job_rules (lines text) ≡ Read p (r ∷ rest)
    → whole (query_line settings.question) r ≡ Ok query → Agrees p.0.f (given_of p) p.1
    → (output_lines text settings ≡ Refuses refusal.States ∷ []) ↔ IsOver p.0.f query (shape p.1) settings.limit
