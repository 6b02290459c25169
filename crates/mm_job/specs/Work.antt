-- The work of a job: how many times the run or the rows of a node are made for it at most.
use Rattle.std.specs.Prelude.{ℕ, ◌+◌, Bool, nat_lt, ◌||◌, List, ◌++◌, codes, Option, Some, None, if◌then◌else◌}
use Rattle.std.specs.Result.{result_ok}
use Rattle.mm_edit.specs.Edits.{Applied}
use Rattle.mm_job.specs.Edits.{block, line_edit, replace_edit, single}
use Rattle.mm_job.specs.Header.{Session, header_lines, is_over_limit}
use Rattle.mm_job.specs.Items.{Items, NoMore, Unended, Single, Block, items}
use Rattle.mm_job.specs.Output.{after_reply}
use Rattle.mm_job.specs.Settings.{Settings}
use Rattle.mm_job_text.specs.Arguments.{begins}
use Rattle.mm_job_text.specs.Readers.{Reading, Read, Refused, Short}
use Rattle.mm_lines.specs.Lines.{lines, settled}
use Rattle.mm_lines.specs.declared.line.Line.{Line}
use Rattle.mm_logic.specs.Occurrence.{cells}
use Rattle.mm_logic.specs.StateSize.{asked, rows, types}
use Rattle.mm_logic.specs.Value.{Value}
use Rattle.mm_tree.specs.NamedTree.{Tree, nodes, shape}

-- ---- kept types: those of the trees since the last time that all was made afresh. A type may stand more than once: cells are those of
-- different values.

-- The types at all nodes of a tree.
unfoldable pub types_in : Session → Tree → List Value
types_in s tree = types s.f s.query (shape tree)

-- The kept types with those of a tree, and its rows, exceed the limit.
unfoldable pub is_full : Session → List Value → Tree → Bool
is_full s kept tree = nat_lt s.limit (cells (asked s.query) (kept ++ types_in s tree) + rows s.f s.query (shape tree))

-- The kept types where a tree takes the place of the present one: they stay where it is over the limit; where it is not, but is too much
-- beside what is kept, its own types alone are kept.
unfoldable pub kept_for : Session → List Value → Tree → List Value
kept_for s kept tree =
    if is_over_limit s tree then kept
    else if is_full s kept tree then types_in s tree
    else kept ++ types_in s tree

abbrev pub kept_after : Session → List Value → Option Applied → List Value
kept_after s kept None = kept
kept_after s kept (Some a) = kept_for s kept a.tree

-- ---- work

-- All nodes of a tree once more, where all is made afresh for it, or where it is over the limit.
unfoldable pub afresh : Session → List Value → Tree → ℕ
afresh s kept tree = if is_over_limit s tree || is_full s kept tree then nodes tree else 0

-- The work of an edit that the present tree allows: its cost, and where all is made afresh the nodes of its tree.
abbrev pub edit_work : Session → List Value → Option Applied → ℕ
edit_work s kept None = 0
edit_work s kept (Some a) = a.cost + afresh s kept a.tree

-- The edit of an item of one line, and of a block, where the present tree allows one.
abbrev pub line_applied : Session → Line → Option Applied
line_applied s r = result_ok (line_edit s r)

abbrev pub block_applied : Session → Line → List Line → Option Applied
block_applied s r rs = if begins (codes "replace") r then result_ok (replace_edit s r rs) else None

-- The work of some items, for a session with these kept types.
unfoldable pub items_work : List Value → Session → Items → ℕ
items_work kept s NoMore = 0
items_work kept s Unended = 0
items_work kept s (Single r rest) =
    edit_work s kept (line_applied s r) + items_work (kept_after s kept (line_applied s r)) (after_reply s (single s r)) rest
items_work kept s (Block r rs rest) =
    edit_work s kept (block_applied s r rs) + items_work (kept_after s kept (block_applied s r rs)) (after_reply s (block s r rs)) rest

-- The nodes of the header's tree, and the work of the items where it is not over the limit.
abbrev pub work_after : Reading Session → ℕ
work_after (Read s rest) = nodes s.tree + (if is_over_limit s s.tree then 0 else items_work (types_in s s.tree) s (items rest))
work_after (Refused why) = 0
work_after Short = 0

-- The work of some lines of a job.
unfoldable pub work : Settings → List Line → ℕ
work settings rs = work_after (header_lines settings rs)

-- The bound on the work of a job, and on the work for what is settled of a text that may go on.
abbrev pub bound_of : List ℕ → Settings → ℕ
bound_of text settings = work settings (lines text)

abbrev pub settled_work : List ℕ → Settings → ℕ
settled_work text settings = work settings (settled text)
