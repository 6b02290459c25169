-- Between code and definitions: what the state between and inside the items of a job makes of the lines that are left.
use Rattle.std.specs.Prelude.{◌≡◌, ℕ, ◌+◌, List, [], ◌∷◌, Option, Some, None, Ok}
use Rattle.std.specs.List.{IsDistinct}
use Rattle.std.specs.Result.{result_ok}
use Rattle.std.specs.Str.{bytes_eq}
use Rattle.mm_edit.specs.Edits.{Applied}
use Rattle.mm_job.specs.Edits.{Reply, Compared, Denied, block, changed, check_names, check_rows, compared_or, is_same, read_whole, replaced_path, replacement}
use Rattle.mm_job.specs.Header.{Session}
use Rattle.mm_job.specs.Items.{Rest, items, rest_of_block}
use Rattle.mm_present.specs.Comparing.{Named, compared}
use Rattle.mm_job.specs.Output.{Ending, after_reply, cut_short, reply_line, lines_of_items}
use Rattle.mm_header.specs.State.HeaderStates.{IsMatrix}
use Rattle.mm_job.specs.declared.block.Block.{Block}
use Rattle.mm_job.specs.declared.block.Block.TheVariants as begun
use Rattle.mm_job.specs.declared.output_line.OutputLine.{OutputLine}
use Rattle.mm_lines.specs.declared.line.Line.{Line}
use Rattle.mm_job_text.specs.Checks.{◌>>=◌}
use Rattle.mm_job_text.specs.Readers.{Reading}
use Rattle.mm_job.specs.Work.{block_applied, edit_work, items_work, kept_after}
use Rattle.mm_job.specs.declared.edit.Above.{Above}
use Rattle.mm_logic.specs.Value.{Value}
use Rattle.mm_tree.specs.Building.{BuilderValue}
use Rattle.mm_tree.specs.Paths.{Path}

-- The reply of a check that was read.
abbrev pub reply_of : Session → Reading Named → Reply
reply_of s given = compared_or (read_whole given >>= λ named. Ok (is_same (compared s.f named s.tree)))

-- The line that says whether a matrix agrees with the present tree.
abbrev pub comparison_line : Session → Named → OutputLine
comparison_line s given = reply_line (Compared (is_same (compared s.f given s.tree)))

-- The edit of a block that has begun, by the rest of its lines, where the present tree allows one. A check edits nothing.
abbrev pub edit_from : Session → Block → List Line → Option Applied
edit_from s (begun.Denied e) rs = None
edit_from s (begun.Subtree above trees) rs = result_ok (replacement s above.name above.up trees.trees rs)
edit_from s (begun.Names names) rs = None
edit_from s (begun.Rows given) rs = None

-- The reply of a block that has begun, by the rest of its lines.
abbrev pub block_from : Session → Block → List Line → Reply
block_from s (begun.Denied e) rs = Denied e
block_from s (begun.Subtree above trees) rs = changed s (replacement s above.name above.up trees.trees rs)
block_from s (begun.Names names) rs = reply_of s (check_names s.f names rs)
block_from s (begun.Rows given) rs = reply_of s (check_rows s.f given.names given.rows.rows rs)

-- The trees of a new subtree are over the field, and there is a node for it.
pub record IsSubtree (s : Session) (above : Above) (trees : BuilderValue) : Type 0 where
  pub field : trees.f ≡ s.f
  pub path : Path
  pub replaced : replaced_path s.tree above.name above.up ≡ Ok path

-- The names of a check that has begun are different, and its rows are over the field and the names.
abbrev pub IsBegun : Session → Block → Type 0
IsBegun s (begun.Denied e) = Unit {0}
IsBegun s (begun.Subtree above trees) = IsSubtree s above trees
IsBegun s (begun.Names names) = IsDistinct bytes_eq names
IsBegun s (begun.Rows given) = IsMatrix s.f given

abbrev pub AreBegun : Session → Option Block → Type 0
AreBegun s None = Unit {0}
AreBegun s (Some b) = IsBegun s b

-- The block that a line opens does what the line and the lines after it do.
pub record Opened (s : Session) (r : Line) (b : Block) : Type 0 where
  pub reply : (rs : List Line) → block s r rs ≡ block_from s b rs
  pub edit : (rs : List Line) → block_applied s r rs ≡ edit_from s b rs

-- A block goes on with a line: what it does by this line and those after it, the other does by those after it.
pub record GoesOn (s : Session) (b : Block) (r : Line) (new : Block) : Type 0 where
  pub reply : (rs : List Line) → block_from s b (r ∷ rs) ≡ block_from s new rs
  pub edit : (rs : List Line) → edit_from s b (r ∷ rs) ≡ edit_from s new rs

-- What is written for a block that has begun, and for the items after it.
abbrev pub written_rest : Ending → Session → Block → Rest → List OutputLine
written_rest e s b None = cut_short e
written_rest e s b (Some rest) = reply_line (block_from s b rest.0) ∷ lines_of_items e (after_reply s (block_from s b rest.0)) rest.1

-- What is written for the lines that are left, where a block has begun or not.
abbrev pub lines_from_block : Ending → Session → Option Block → List Line → List OutputLine
lines_from_block e s None rs = lines_of_items e s (items rs)
lines_from_block e s (Some b) rs = written_rest e s b (rest_of_block rs)

-- The work of a block that has begun, and of the items after it, with these kept types.
abbrev pub rest_work : List Value → Session → Block → Rest → ℕ
rest_work kept s b None = 0
rest_work kept s b (Some rest) =
    edit_work s kept (edit_from s b rest.0)
    + items_work (kept_after s kept (edit_from s b rest.0)) (after_reply s (block_from s b rest.0)) rest.1

-- The work of the lines that are left, where a block has begun or not.
abbrev pub work_from_block : List Value → Session → Option Block → List Line → ℕ
work_from_block kept s None rs = items_work kept s (items rs)
work_from_block kept s (Some b) rs = rest_work kept s b (rest_of_block rs)

-- The line that a step writes, if it writes one.
abbrev pub written : Option OutputLine → List OutputLine
written None = []
written (Some output_line) = output_line ∷ []
