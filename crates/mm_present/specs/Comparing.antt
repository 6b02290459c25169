-- The rows of a tree's matrix, and the first difference of given rows from it.
use Rattle.std.specs.Prelude.{ℕ, ◌+◌, not, List, map, find, length, slice_index, Option, Some, None}
use Rattle.std.specs.List.{position, range_with_len}
use Rattle.std.specs.Str.{bytes_eq}
use Rattle.mm_field.specs.declared.Field.{Field}
use Rattle.mm_linear.specs.Decide.{is_in_span}
use Rattle.mm_logic.specs.PresentMatrix.{matrix_row, internal}
use Rattle.mm_logic.specs.Tree as shapes
use Rattle.mm_present.specs.declared.comparison.Verdict.{Verdict}
use Rattle.mm_present.specs.declared.comparison.Verdict.TheVariants as verdict
use Rattle.mm_tree.specs.NamedTree.{Tree, shape, element_names, is_one_of}

-- Names, and rows with a digit for each of them.
pub record Named : Type 0 where
  pub names : List (List ℕ)
  pub rows : List (List ℕ)

-- The rows of a tree's matrix, from the top.
unfoldable pub present_rows : Field → Tree → List (List ℕ)
present_rows f tree = map (matrix_row f (shape tree)) (range_with_len 0 (shapes.boundary (shape tree) + internal (shape tree)))

-- The first of some names that is not among others.
abbrev pub first_missing : List (List ℕ) → List (List ℕ) → Option (List ℕ)
first_missing names others = find (λ name. not (is_one_of name others)) names

abbrev pub digit_at : List ℕ → Option ℕ → ℕ
digit_at row None = 0
digit_at row (Some i) = slice_index row i

-- A row over some names, as a row over other names.
abbrev pub in_order : List (List ℕ) → List (List ℕ) → List ℕ → List ℕ
in_order names others row = map (λ name. digit_at row (position (bytes_eq name) names)) others

-- The place, from 0, of the first of some rows that is no combination of others.
abbrev pub first_outside : Field → ℕ → List (List ℕ) → List (List ℕ) → Option ℕ
first_outside f n rows others = position (λ row. not (is_in_span f n others row)) rows

abbrev pub verdict_of_rows : Option ℕ → Option ℕ → Verdict
verdict_of_rows (Some i) j = verdict.Given (i + 1)
verdict_of_rows None (Some j) = verdict.Present (j + 1)
verdict_of_rows None None = verdict.Same

-- The rows of both are over the same n names, in the same order.
abbrev pub compared_rows : Field → ℕ → List (List ℕ) → List (List ℕ) → Verdict
compared_rows f n given present = verdict_of_rows (first_outside f n given present) (first_outside f n present given)

abbrev pub verdict_of : Option (List ℕ) → Option (List ℕ) → Verdict → Verdict
verdict_of (Some name) other rows = verdict.Elements name
verdict_of None (Some name) rows = verdict.Elements name
verdict_of None None rows = rows

-- The first difference of given rows and a tree's matrix: a given name that is no element, an element that is not given, the
-- least given row outside the row space of the matrix, the least row of the matrix outside the given row space.
unfoldable pub compared : Field → Named → Tree → Verdict
compared f given tree =
    verdict_of (first_missing given.names (element_names tree)) (first_missing (element_names tree) given.names)
    (compared_rows f (length given.names) (map (in_order given.names (element_names tree)) given.rows) (present_rows f tree))
