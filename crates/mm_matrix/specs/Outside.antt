-- The first of some rows that is outside a row space.
use Rattle.std.specs.Prelude.{ℕ, ◌<◌, List, [], take, length, slice_index_or}
use Rattle.mm_field.specs.declared.Field.{Field}
use Rattle.mm_field.specs.Vectors.{InSpan, IsWithin}

-- row i of the others is no combination of the rows, and those before it are
pub record IsFirstOutside (f : Field) (n : ℕ) (rows others : List (List ℕ)) (i : ℕ) : Type 0 where
  pub is_row : i < length others
  pub outside : InSpan f n rows (slice_index_or others i []) → ⊥
  pub before : IsWithin f n (take i others) rows
