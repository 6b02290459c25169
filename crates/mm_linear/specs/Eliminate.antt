-- One step of elimination: what is left of a vector after its part along some rows is taken away, and a row put in at its place.
use Rattle.std.specs.Prelude.{ℕ, List, map, slice_index, slice_set}
use Rattle.mm_field.specs.declared.Field.{Field}
use Rattle.mm_field.specs.Digits.{negative}
use Rattle.mm_field.specs.Vectors.{vector_sum, multiple, combination}

-- v without its part along the rows
abbrev pub residue : Field → ℕ → List ℕ → List (List ℕ) → List ℕ
residue f n v rows = vector_sum f v (multiple f (negative f 1) (combination f n v rows))

-- a row without its part along w, which ends at p
abbrev pub cleared : Field → ℕ → List ℕ → List ℕ → List ℕ
cleared f p w row = vector_sum f row (multiple f (negative f (slice_index row p)) w)

-- all rows without their part along w, and w at its place
abbrev pub inserted : Field → ℕ → List ℕ → List (List ℕ) → List (List ℕ)
inserted f p w rows = slice_set (map (cleared f p w) rows) p w
