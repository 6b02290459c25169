-- Square rows of which only the marked ones count.
use Rattle.std.specs.Prelude.{ℕ, ◌≡◌, ◌≢◌, ◌<◌, ◌^◌, ◌==◌, cond, List, [], length, map, slice_index, slice_index_or}
use Rattle.std.specs.Int.{bit_at}
use Rattle.std.specs.List.{range_with_len}
use Rattle.mm_field.specs.Vectors.{zeros}

-- the row at place i, or zeros where bit i of the marks is 0
abbrev pub marked_row : ℕ → ℕ → List (List ℕ) → ℕ → List ℕ
marked_row n marks rows i = cond (bit_at marks i == 0) (zeros n) (slice_index_or rows i [])

-- n rows of n digits: the marked rows at their places, and zero rows at the others
unfoldable pub marked_rows : ℕ → ℕ → List (List ℕ) → List (List ℕ)
marked_rows n marks rows = map (marked_row n marks rows) (range_with_len 0 n)

-- p is the highest mark
pub record IsHighest (marks p : ℕ) : Type 0 where
  pub set : bit_at marks p ≡ 1
  pub after : (k : ℕ) → p < k → bit_at marks k ≡ 0

-- the marks are the places of the digits other than 0
pub record IsSupport (digits : List ℕ) (marks : ℕ) : Type 0 where
  pub small : marks < 2 ^ length digits
  pub zero : (k : ℕ) → k < length digits → bit_at marks k ≡ 0 → slice_index digits k ≡ 0
  pub nonzero : (k : ℕ) → bit_at marks k ≡ 1 → (k < length digits) × (slice_index digits k ≢ 0)
