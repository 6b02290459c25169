-- The lines of a header that give the format, the field, the elements and the rows: each is what it says, or its first refusal.
use Rattle.std.specs.Prelude.{ℕ, not, ◌==◌, nat_lt, List, [], ◌∷◌, ◌++◌, length, codes, Option, Some, None, Ok, if◌then◌else◌}
use Rattle.std.specs.declared.result.Result.{Result}
use Rattle.std.specs.List.{list_all}
use Rattle.std.specs.Str.{bytes_eq}
use Rattle.mm_base.specs.Names.{is_name}
use Rattle.mm_field.specs.declared.Field.{Field}
use Rattle.mm_field.specs.declared.Field.TheVariants.{Two, Three, Four, Five}
use Rattle.mm_lines.specs.Numbers.{u32_of}
use Rattle.mm_lines.specs.declared.line.Line.{Line}
use Rattle.mm_tree.specs.NamedTree.{is_one_of}
use Rattle.mm_job_text.specs.Arguments.{args, begins, one_of, is_word}
use Rattle.mm_job_text.specs.Checks.{◌>>=◌, ◌>>◌, require, found}
use Rattle.mm_space.specs.DigitTexts.{digits_of}
use Rattle.mm_job_text.specs.declared.format.Format.{Format}
use Rattle.mm_job_text.specs.declared.format.Format.TheVariants as format
use Rattle.mm_job_text.specs.declared.refusal.Limit.TheVariants as limit
use Rattle.mm_job_text.specs.declared.refusal.Refusal.{Refusal}
use Rattle.mm_job_text.specs.declared.refusal.Refusal.TheVariants as refusal

-- The format of this number.
abbrev pub format_of : List ℕ → Option Format
format_of t = if bytes_eq t (codes "1") then Some format.One else if bytes_eq t (codes "2") then Some format.Two else None

-- `mso 1` or `mso 2`
unfoldable pub format_line : Line → Result Format Refusal
format_line r = do
  require (begins (codes "mso") r) (refusal.Syntax r.number)
  t ← found (one_of (args r)) (refusal.Syntax r.number)
  found (format_of t) (refusal.Syntax r.number)

-- The field of so many elements.
abbrev pub field_of : ℕ → Option Field
field_of q = if q == 2 then Some Two else if q == 3 then Some Three else if q == 4 then Some Four else if q == 5 then Some Five else None

-- `field Q`
unfoldable pub field_line : Line → Result Field Refusal
field_line r = do
  require (begins (codes "field") r) (refusal.Syntax r.number)
  t ← found (one_of (args r)) (refusal.Syntax r.number)
  q ← found (u32_of t) (refusal.Syntax r.number)
  found (field_of q) (refusal.Field r.number)

-- The most rows of a text.
abbrev pub most_rows : ℕ
most_rows = 4096

-- A name more, in the line with number n of a text that has at most so many.
abbrev pub with_name : (most n : ℕ) → List (List ℕ) → List ℕ → Result (List (List ℕ)) Refusal
with_name most n names name = do
  require (not (is_one_of name names)) (refusal.Taken name)
  require (nat_lt (length names) most) (refusal.Over limit.Elements n)
  Ok (names ++ name ∷ [])

abbrev pub with_names : (most n : ℕ) → List (List ℕ) → List (List ℕ) → Result (List (List ℕ)) Refusal
with_names most n names [] = Ok names
with_names most n names (t ∷ ts) = with_name most n names t >>= λ more. with_names most n more ts

-- `elements NAME ..`, after these names, of which there are at most so many
unfoldable pub elements_line : ℕ → List (List ℕ) → Line → Result (List (List ℕ)) Refusal
elements_line most names r = do
  require (list_all is_name (args r)) (refusal.Syntax r.number)
  with_names most r.number names (args r)

-- `row DIGITS`, with a digit for each of so many elements, after these rows
unfoldable pub row_line : Field → ℕ → List (List ℕ) → Line → Result (List (List ℕ)) Refusal
row_line f elements rows r = do
  t ← found (one_of (args r)) (refusal.Syntax r.number)
  row ← found (digits_of f t) (refusal.Syntax r.number)
  require (length row == elements) (refusal.Syntax r.number)
  require (nat_lt (length rows) most_rows) (refusal.Over limit.Rows r.number)
  Ok (rows ++ row ∷ [])

-- `tree`
unfoldable pub tree_line : Line → Result (Unit {0}) Refusal
tree_line r = require (is_word (codes "tree") r) (refusal.Syntax r.number)
