-- The text of a header alone: a matrix with names for its columns, and a tree of the same matroid.
use Rattle.std.specs.Prelude.{ℕ, ◌≡◌, ◌≤◌, Bool, List, length, Some, Ok, Err}
use Rattle.std.specs.List.{IsDistinct}
use Rattle.std.specs.Str.{bytes_eq}
use Rattle.std.specs.declared.result.Result.{Result}
use Rattle.mm_base.specs.declared.text.TextFault.{TextFault}
use Rattle.mm_base.specs.declared.text.TextFault.TheVariants.{Refused, NoMemory}
use Rattle.mm_header.specs.Header.{Parts, parts, matched}
use Rattle.mm_header.specs.Rules.{dual_rules}
use Rattle.mm_header.specs.State.HeaderStates.{header_value, parts_from}
use Rattle.mm_header.specs.declared.state.HeaderStep.{HeaderStep}
use Rattle.mm_header.specs.declared.state.HeaderStep.TheVariants as step
use Rattle.mm_lines.specs.Lines.{is_over, lines}
use Rattle.mm_job_text.specs.Becoming.{UnlessMemory}
use Rattle.mm_job_text.specs.Checks.{◌>>=◌ as ◌and_then◌, ◌>>◌ as ◌and◌}
use Rattle.mm_job_text.specs.Readers.{Reading, Reader, ◌>>=◌}
use Rattle.mm_job_text.specs.declared.refusal.Refusal.{Refusal}
use Rattle.mm_job_text.specs.declared.refusal.Stop.{Stop}
use Rattle.mm_present.specs.Comparing.{compared}
use Rattle.mm_present.specs.declared.comparison.Verdict.TheVariants as verdict
use Rattle.mm_tree.specs.NamedTree.{Tree, element_names}
use Rattle.mm_decomp.specs.Building.{given_of}
use Rattle.mm_decomp.specs.BuildTexts.{words_of}
use Rattle.mm_decomp.specs.Decompositions.{at_end, nothing_after}
use Rattle.mm_decomp.specs.Shapes.{most_leaves}
use Rattle.mm_decomp.specs.Spaces.{Given}
use Rattle.mm_decomp.specs.declared.tree_text.TreeText.{TreeText}

-- What a text gives: names and rows, and a tree.
pub record GivenTree : Type 0 where
  pub given : Given
  pub tree : Tree

abbrev pub given_tree : Parts → GivenTree
given_tree p = record { given = record { f = p.0.f; names = p.0.names; rows = p.0.rows }; tree = p.1 }

-- All lines of a text: those of a header without its query.
unfoldable pub tree_parts : Reader Parts
tree_parts = do
  p ← parts dual_rules
  nothing_after p

-- The rows and the tree agree.
abbrev pub agreeing : Parts → Result GivenTree Refusal
agreeing p = (matched p) and (Ok (given_tree p))

-- What is read of all lines, and its rows compared with its tree.
abbrev pub tree_at_end : Bool → Reading Parts → Result GivenTree Refusal
tree_at_end over reading = (at_end over reading) and_then agreeing

-- The matrix and the tree that a text gives, or the text's refusal.
unfoldable pub given_tree_of : List ℕ → Result GivenTree Refusal
given_tree_of text = tree_at_end (is_over text) (tree_parts (lines text))

-- ---- what the reading answers

-- What was read, as the text gives it.
abbrev pub tree_given : TreeText → GivenTree
tree_given t = record { given = given_of t.given.names t.given.rows; tree = t.tree.tree }

-- The matrix has different names and the field of the tree; the elements of the tree are its names, at most 4096, and its row space is that
-- of the tree's matrix.
pub record IsGivenTree (t : TreeText) : Type 0 where
  pub field : t.tree.f ≡ t.given.rows.f
  pub columns : t.given.rows.cols ≡ length t.given.names
  pub different : IsDistinct bytes_eq t.given.names
  pub few : length (element_names t.tree.tree) ≤ most_leaves
  pub same : compared t.tree.f (record { names = t.given.names; rows = t.given.rows.rows }) t.tree.tree ≡ verdict.Same

abbrev pub ReadsTree : Result TreeText TextFault → Result GivenTree Refusal → Type 0
ReadsTree (Ok t) read = (read ≡ Ok (tree_given t)) × IsGivenTree t
ReadsTree (Err (Refused w)) read = words_of read ≡ Some w
ReadsTree (Err NoMemory) read = Unit {0}

-- ---- between code and definitions

-- What the lines that are left make of what was read so far.
abbrev pub tree_from : HeaderStep → Reader Parts
tree_from (step.More h) = parts_from dual_rules h >>= nothing_after
tree_from (step.Parts h t) = nothing_after (header_value h, t.tree)

-- The tree has at most 4096 elements.
abbrev pub HasFewElements : Parts → Type 0
HasFewElements p = length (element_names p.1) ≤ most_leaves

-- The same of the whole reading, with a refusal in place of its words.
abbrev pub ReadsTreeAs : Result TreeText Stop → Result GivenTree Refusal → Type 0
ReadsTreeAs result read = UnlessMemory result (λ t. (read ≡ Ok (tree_given t)) × IsGivenTree t) (λ e. read ≡ Err e)
