-- The lines of a header in their order, from the format to the `end` of the tree, and how the rows and the tree agree.
use Rattle.std.specs.Prelude.{ℕ, List, [], length, codes, Ok, Err}
use Rattle.std.specs.declared.result.Result.{Result}
use Rattle.mm_field.specs.declared.Field.{Field}
use Rattle.mm_header.specs.declared.rules.HeaderRules.{HeaderRules}
use Rattle.mm_present.specs.Comparing.{compared}
use Rattle.mm_present.specs.declared.comparison.Verdict.{Verdict}
use Rattle.mm_present.specs.declared.comparison.Verdict.TheVariants as verdict
use Rattle.mm_ops.specs.Tables.{OperatorList as NamedOps}
use Rattle.mm_tree.specs.NamedTree.{Tree}
use Rattle.mm_job_text.specs.Arguments.{begins}
use Rattle.mm_job_text.specs.HeaderLines.{format_line, field_line, elements_line, row_line, tree_line}
use Rattle.mm_job_text.specs.OperatorLines.{op_line}
use Rattle.mm_job_text.specs.Readers.{Reader, ◌>>=◌, ◌>>◌, now, line, each}
use Rattle.mm_job_text.specs.TreeLines.{tree_lines}
use Rattle.mm_job_text.specs.declared.format.Format.{Format}
use Rattle.mm_job_text.specs.declared.refusal.Refusal.{Refusal}
use Rattle.mm_job_text.specs.declared.refusal.Refusal.TheVariants as refusal

-- What the lines before the tree give.
pub record HeaderValue : Type 0 where
  pub version : Format
  pub f : Field
  pub names : List (List ℕ)
  pub rows : List (List ℕ)
  pub ops : NamedOps

-- What the lines before the query give: those before the tree, and the tree.
abbrev pub Parts : Type 0
Parts = HeaderValue × Tree

unfoldable pub tree_part_of : HeaderRules → HeaderValue → List Tree → Reader Parts
tree_part_of rules h trees = do
  tree ← tree_lines rules.leaves h.f h.ops trees
  now (Ok (h, tree.0))

unfoldable pub ops_part : HeaderRules → HeaderValue → Reader Parts
ops_part rules h = do
  ops ← each (begins (codes "op")) (op_line h.version h.f) h.ops
  line tree_line
  tree_part_of rules (record h { ops = ops }) []

unfoldable pub rows_part : HeaderRules → HeaderValue → Reader Parts
rows_part rules h = do
  rows ← each (begins (codes "row")) (row_line h.f (length h.names)) h.rows
  ops_part rules (record h { rows = rows })

unfoldable pub elements_part : HeaderRules → HeaderValue → Reader Parts
elements_part rules h = do
  names ← each (begins (codes "elements")) (elements_line rules.names) h.names
  rows_part rules (record h { names = names })

unfoldable pub field_part : HeaderRules → Format → Reader Parts
field_part rules version = do
  f ← line field_line
  elements_part rules (record { version = version; f = f; names = []; rows = []; ops = [] })

-- The lines before the query.
unfoldable pub parts : HeaderRules → Reader Parts
parts rules = do
  version ← line format_line
  field_part rules version

-- The refusal of rows that differ from those of the tree.
abbrev pub verdict_refusal : Verdict → Result (Unit {0}) Refusal
verdict_refusal verdict.Same = Ok tt
verdict_refusal (verdict.Elements name) = Err (refusal.Elements name)
verdict_refusal (verdict.Given i) = Err (refusal.Given i)
verdict_refusal (verdict.Present j) = Err (refusal.Present j)

-- The given rows span the row space of the tree's matrix.
abbrev pub matched : Parts → Result (Unit {0}) Refusal
matched p = verdict_refusal (compared p.0.f (record { names = p.0.names; rows = p.0.rows }) p.1)
