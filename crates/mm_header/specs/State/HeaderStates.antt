-- Between code and definition: what the state of a header that was read so far makes of the lines that are left, and what it keeps.
use Rattle.std.specs.Prelude.{◌≡◌, List, [], Ok, length}
use Rattle.std.specs.List.{IsDistinct}
use Rattle.std.specs.Str.{bytes_eq}
use Rattle.mm_field.specs.declared.Field.{Field}
use Rattle.mm_header.specs.Header.{HeaderValue, Parts, parts, field_part, elements_part, rows_part, ops_part, tree_part_of}
use Rattle.mm_header.specs.declared.rules.HeaderRules.{HeaderRules}
use Rattle.mm_header.specs.declared.state.Elements as elements
use Rattle.mm_header.specs.declared.state.HeaderData.{HeaderData}
use Rattle.mm_header.specs.declared.state.HeaderState.{HeaderState}
use Rattle.mm_header.specs.declared.state.HeaderState.TheVariants as state
use Rattle.mm_header.specs.declared.state.HeaderStep.{HeaderStep}
use Rattle.mm_header.specs.declared.state.HeaderStep.TheVariants as step
use Rattle.mm_present.specs.declared.present.Named.{Named}
use Rattle.mm_tree.specs.Building.{AreOver}
use Rattle.mm_tree.specs.NamedTree.{Tree}
use Rattle.mm_job_text.specs.Readers.{Reader, now}

-- What stands before the rows.
abbrev pub elements_value : elements.Elements → HeaderValue
elements_value e = record { version = e.format; f = e.field; names = e.names; rows = []; ops = [] }

-- What stands before the tree.
abbrev pub header_value : HeaderData → HeaderValue
header_value h = record { version = h.format; f = h.field; names = h.matrix.names; rows = h.matrix.rows.rows; ops = h.ops }

-- What the lines that are left make of the names, the operators and the tree that were read so far.
abbrev pub elements_from : HeaderRules → elements.Elements → Reader Parts
elements_from rules e = elements_part rules (elements_value e)

abbrev pub tree_from : HeaderRules → HeaderData → List Tree → Reader Parts
tree_from rules h trees = tree_part_of rules (header_value h) trees

-- What the lines that are left make of a header that was read so far.
abbrev pub parts_from : HeaderRules → HeaderState → Reader Parts
parts_from rules state.Format = parts rules
parts_from rules (state.Field version) = field_part rules version
parts_from rules (state.Elements e) = elements_from rules e
parts_from rules (state.Rows h) = rows_part rules (header_value h)
parts_from rules (state.Operators h) = ops_part rules (header_value h)
parts_from rules (state.Tree h trees) = tree_from rules h trees.trees

-- The same after one line more.
abbrev pub parts_after : HeaderRules → HeaderStep → Reader Parts
parts_after rules (step.More h) = parts_from rules h
parts_after rules (step.Parts h t) = now (Ok (header_value h, t.tree))

-- The names of a matrix are different, and its rows are over the field and the names.
pub record IsMatrix (f : Field) (m : Named) : Type 0 where
  pub field : m.rows.f ≡ f
  pub cols : m.rows.cols ≡ length m.names
  pub different : IsDistinct bytes_eq m.names

-- The matrix and the operators are over the field.
pub record IsHeader (h : HeaderData) : Type 0 where
  pub matrix : IsMatrix h.field h.matrix
  pub ops : AreOver h.field h.ops

-- What a state of a header keeps: the names are different, and the matrix, the operators and the trees are over the field.
abbrev pub IsKept : HeaderState → Type 0
IsKept (state.Elements e) = IsDistinct bytes_eq e.names
IsKept (state.Rows h) = IsHeader h × (h.ops ≡ [])
IsKept (state.Operators h) = IsHeader h
IsKept (state.Tree h trees) = IsHeader h × (trees.f ≡ h.field)
IsKept h = Unit {0}

abbrev pub IsKeptAfter : HeaderStep → Type 0
IsKeptAfter (step.More h) = IsKept h
IsKeptAfter (step.Parts h t) = IsHeader h × (t.f ≡ h.field)
