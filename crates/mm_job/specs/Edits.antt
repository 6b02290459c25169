-- What each item of a job does: the tree after it, or its verdict, or the first of its refusals.
use Rattle.std.specs.Prelude.{ℕ, ◌+◌, ℤ, nat_abs, Bool, true, false, List, [], length, codes, Option, Some, None, Ok, Err, if◌then◌else◌, ◌==◌}
use Rattle.std.specs.declared.result.Result.{Result}
use Rattle.mm_base.specs.Names.{is_name}
use Rattle.mm_field.specs.declared.Field.{Field}
use Rattle.mm_edit.specs.Edits.{Applied}
use Rattle.mm_header.specs.Rules.{job_rules}
use Rattle.mm_job.specs.Header.{Session, is_over_limit}
use Rattle.mm_present.specs.Comparing.{Named, compared}
use Rattle.mm_present.specs.declared.comparison.Verdict.{Verdict}
use Rattle.mm_present.specs.declared.comparison.Verdict.TheVariants as verdict
use Rattle.mm_lines.specs.Numbers.{u32_of, i64_of}
use Rattle.mm_lines.specs.declared.line.Line.{Line}
use Rattle.mm_tree.specs.NamedTree.{Tree, element_names, is_one_of, leaf_names, nodes}
use Rattle.mm_tree.specs.ValidTree.{most_weight}
use Rattle.mm_tree.specs.Replacing.{replace_fault}
use Rattle.mm_tree.specs.declared.replace.ReplaceFault.{ReplaceFault}
use Rattle.mm_tree.specs.declared.replace.ReplaceFault.TheVariants as fault
use Rattle.mm_tree.specs.Paths.{Path, path_to, with_node, with_weight}
use Rattle.mm_tree.specs.Places.{path_above}
use Rattle.mm_job_text.specs.Arguments.{args, begins, is_word, two_of}
use Rattle.mm_job_text.specs.Checks.{◌>>=◌, ◌>>◌, require, found, unless, within}
use Rattle.mm_job_text.specs.HeaderLines.{elements_line, row_line}
use Rattle.mm_job_text.specs.Readers.{Reading, Read, Refused, Short, each, line, whole}
use Rattle.mm_job_text.specs.Readers.{◌>>=◌ as ◌>>>=◌}
use Rattle.mm_job_text.specs.TreeLines.{tree_lines}
use Rattle.mm_job_text.specs.declared.refusal.Limit.TheVariants as limit
use Rattle.mm_job_text.specs.declared.refusal.Refusal.{Refusal}
use Rattle.mm_job_text.specs.declared.refusal.Refusal.TheVariants as refusal

-- ---- `weight NAME WEIGHT`

-- The name and the weight that the line gives.
unfoldable pub weight_fields : Line → Result (List ℕ × ℤ) Refusal
weight_fields r = do
  t ← found (two_of (args r)) (refusal.Syntax r.number)
  require (is_name t.0) (refusal.Syntax r.number)
  weight ← found (i64_of t.1) (refusal.Syntax r.number)
  Ok (t.0, weight)

-- Another weight of an element.
unfoldable pub another_weight : Tree → List ℕ → ℤ → Result Applied Refusal
another_weight tree name weight = do
  require (is_one_of name (element_names tree)) (refusal.Unknown name)
  path ← found (path_to name tree) (refusal.Unknown name)
  Ok (record { tree = with_weight name weight tree; cost = length path + 1 })

-- The name and the weight of a line, where the weight is within its limit.
unfoldable pub light_fields : Line → Result (List ℕ × ℤ) Refusal
light_fields r = do
  w ← weight_fields r
  within (nat_abs w.1) most_weight limit.Weight r.number
  Ok w

unfoldable pub weight_edit : Session → Line → Result Applied Refusal
weight_edit s r = do
  w ← light_fields r
  another_weight s.tree w.0 w.1

-- ---- `replace NAME UP`, and the lines of its block

-- What a reader made of a block's lines. Their `end` is among them, so they are not too few.
abbrev pub read_whole : {A : Type 0} → Reading A → Result A Refusal
read_whole (Read x rest) = Ok x
read_whole (Refused e) = Err e
read_whole Short = Err refusal.Unfinished

-- The refusal of an exchange by a block whose `end` has this number, by what is at fault with it.
abbrev pub exchange_refusal : ℕ → Option ReplaceFault → Option Refusal
exchange_refusal n None = None
exchange_refusal n (Some (fault.Boundary old new)) = Some (refusal.Boundary old new)
exchange_refusal n (Some (fault.NameTaken name)) = Some (refusal.Taken name)
exchange_refusal n (Some fault.TooManyLeaves) = Some (refusal.Over limit.Leaves n)
exchange_refusal n (Some fault.TooDeep) = Some (refusal.Over limit.Depth n)
exchange_refusal n (Some fault.NoMemory) = None

-- The name and the number that the line gives.
unfoldable pub replace_fields : Line → Result (List ℕ × ℕ) Refusal
replace_fields r = do
  t ← found (two_of (args r)) (refusal.Syntax r.number)
  require (is_name t.0) (refusal.Syntax r.number)
  up ← found (u32_of t.1) (refusal.Syntax r.number)
  Ok (t.0, up)

-- The path to the node so many steps above the leaf of a name.
unfoldable pub replaced_path : Tree → List ℕ → ℕ → Result Path Refusal
replaced_path tree name up = do
  require (is_one_of name (leaf_names tree)) (refusal.Unknown name)
  found (path_above name up tree) (refusal.NoNode name up)

-- The tree with the node at the end of a path exchanged, by a block whose `end` has this number.
unfoldable pub exchanged : Tree → Path → Tree → ℕ → Result Applied Refusal
exchanged tree path new n = do
  unless (exchange_refusal n (replace_fault tree path new))
  Ok (record { tree = with_node tree path new; cost = length path + nodes new })

-- A new subtree for the node so many steps above a leaf, by the lines of its block after these trees.
unfoldable pub replacement : Session → List ℕ → ℕ → List Tree → List Line → Result Applied Refusal
replacement s name up trees rs = do
  path ← replaced_path s.tree name up
  new ← read_whole (tree_lines job_rules.leaves s.f s.ops trees rs)
  exchanged s.tree path new.0 new.1

unfoldable pub replace_edit : Session → Line → List Line → Result Applied Refusal
replace_edit s r rs = do
  w ← replace_fields r
  replacement s w.0 w.1 [] rs

-- ---- `check`, and the lines of its block

unfoldable pub check_end : Line → Result (Unit {0}) Refusal
check_end r = require (is_word (codes "end") r) (refusal.Syntax r.number)

-- The `row` lines of a check after these names and rows, and its `end`.
unfoldable pub check_rows : Field → List (List ℕ) → List (List ℕ) → List Line → Reading Named
check_rows f names rows = each (begins (codes "row")) (row_line f (length names)) rows >>>= λ rows.
    line check_end >>>= λ u rest.
    Read (record { names = names; rows = rows }) rest

-- The `elements` and `row` lines of a check after these names, and its `end`.
unfoldable pub check_names : Field → List (List ℕ) → List Line → Reading Named
check_names f names = each (begins (codes "elements")) (elements_line job_rules.names) names >>>= λ names. check_rows f names []

abbrev pub is_same : Verdict → Bool
is_same verdict.Same = true
is_same v = false

-- The first line of a check has no arguments.
unfoldable pub check_fields : Line → Result (Unit {0}) Refusal
check_fields r = require (length (args r) == 0) (refusal.Syntax r.number)

-- Whether the given rows agree with the present tree.
unfoldable pub checked : Session → Line → List Line → Result Bool Refusal
checked s r rs = do
  check_fields r
  given ← read_whole (check_names s.f [] rs)
  Ok (is_same (compared s.f given s.tree))

-- ---- items

-- What an item does.
pub data Reply : Type 0 where
  Changed : Session → Reply
  Compared : Bool → Reply
  Denied : Refusal → Reply

-- An edit is done where the tree after it is not over the limit.
abbrev pub accepted : Session → Applied → Reply
accepted s a = if is_over_limit s a.tree then Denied refusal.States else Changed (record s { tree = a.tree })

abbrev pub changed : Session → Result Applied Refusal → Reply
changed s (Ok a) = accepted s a
changed s (Err e) = Denied e

abbrev pub compared_or : Result Bool Refusal → Reply
compared_or (Ok same) = Compared same
compared_or (Err e) = Denied e

-- An item of one line, but for the limit.
unfoldable pub line_edit : Session → Line → Result Applied Refusal
line_edit s r = whole (λ r. if begins (codes "weight") r then weight_edit s r else Err (refusal.Syntax r.number)) r

unfoldable pub single : Session → Line → Reply
single s r = changed s (line_edit s r)

-- An item of a block.
unfoldable pub block : Session → Line → List Line → Reply
block s r rs = if begins (codes "replace") r then changed s (replace_edit s r rs) else compared_or (checked s r rs)
