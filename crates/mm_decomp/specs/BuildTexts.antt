-- What the reading of a decomposition's text answers.
use Rattle.std.specs.Prelude.{ℕ, ◌≡◌, List, drop, length, Option, Some, None, Ok, Err}
use Rattle.std.specs.List.{IsDistinct}
use Rattle.std.specs.Str.{bytes_eq}
use Rattle.std.specs.declared.result.Result.{Result}
use Rattle.mm_base.specs.declared.text.TextFault.{TextFault}
use Rattle.mm_base.specs.declared.text.TextFault.TheVariants.{Refused, NoMemory}
use Rattle.mm_lines.specs.Lines.{lines_of}
use Rattle.mm_lines.specs.Streams.{Stream}
use Rattle.mm_lines.specs.declared.line.Line.{Line}
use Rattle.mm_job_text.specs.Becoming.{UnlessMemory}
use Rattle.mm_job_text.specs.Words.{words}
use Rattle.mm_job_text.specs.declared.refusal.Refusal.{Refusal}
use Rattle.mm_job_text.specs.declared.refusal.Stop.{Stop}
use Rattle.mm_decomp.specs.Building.{AreLeaves, given_of}
use Rattle.mm_decomp.specs.BuildStates.{given_in, step_lines}
use Rattle.mm_decomp.specs.Decompositions.{Decomposition, same_names}
use Rattle.mm_decomp.specs.declared.build_state.BuildState.{BuildState}
use Rattle.mm_decomp.specs.declared.decomposition.BuildText.{BuildText}

-- What was read, as the text gives it.
abbrev pub decomposition : BuildText → Decomposition
decomposition t = record { given = given_of t.names t.rows; shape = record { steps = t.shape; numbers = t.lines } }

-- The words of a refusal, if there is one.
abbrev pub words_of : {A : Type 0} → Result A Refusal → Option (List ℕ)
words_of (Ok x) = None
words_of (Err e) = Some (words e)

-- What a text gives, with the leaves of its shape as the names of its columns; or the words of its refusal; or memory ran out.
abbrev pub ReadsText : Result BuildText TextFault → Result Decomposition Refusal → Type 0
ReadsText (Ok t) read = (read ≡ Ok (decomposition t)) × AreLeaves t.names t.rows t.shape
ReadsText (Err (Refused w)) read = words_of read ≡ Some w
ReadsText (Err NoMemory) read = Unit {0}

-- ---- between code and definitions

-- The lines of a stream that were not handed out yet.
abbrev pub left : Stream → List Line
left s = drop s.handed (lines_of s.ended s.bytes)

-- The text of a state at its end.
pub record IsTextOf (s : BuildState) (t : BuildText) : Type 0 where
  pub value : decomposition t ≡ record { given = given_in s; shape = step_lines s.steps }
  pub cols : t.rows.cols ≡ length t.names
  pub different : IsDistinct bytes_eq t.names

-- The names of a text and of its leaves are compared.
abbrev pub ComparesNames : BuildText → Result (Unit {0}) Stop → Type 0
ComparesNames t result =
    UnlessMemory result (λ u. (same_names (decomposition t) ≡ Ok (decomposition t)) × AreLeaves t.names t.rows t.shape) (λ e. same_names (decomposition t) ≡ Err e)

-- The same of the whole reading, with a refusal in place of its words.
abbrev pub ReadsAs : Result BuildText Stop → Result Decomposition Refusal → Type 0
ReadsAs result read = UnlessMemory result (λ t. (read ≡ Ok (decomposition t)) × AreLeaves t.names t.rows t.shape) (λ e. read ≡ Err e)
