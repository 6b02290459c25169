-- Rows over GF(2) that are kept as bits, 64 digits a word, and rows that are reduced by one another in turn.
use Rattle.std.specs.Prelude.{ℕ, ◌+◌, ◌/◌, ◌%◌, ◌<◌, ◌≡◌, List, [], map, length, slice_index, slice_index_or, All}
use Rattle.std.specs.Int.{bit_at}
use Rattle.std.specs.List.{range_with_len}
use Rattle.std.specs.declared.alloc.Global.{Global}
use Rattle.std.specs.declared.vec.Vec.{Vec}
use Rattle.mm_field.specs.declared.Field.TheVariants.{Two}
use Rattle.mm_field.specs.Vectors.{AreVectors}

-- digit k of packed words
abbrev pub bit_of : List ℕ → ℕ → ℕ
bit_of words k = bit_at (slice_index words (k / 64)) (k % 64)

-- the first n digits of packed words
abbrev pub bits : ℕ → List ℕ → List ℕ
bits n words = map (bit_of words) (range_with_len 0 n)

-- the first n digits of each of some packed rows
abbrev pub bit_rows : ℕ → List (Vec ℕ Global) → List (List ℕ)
bit_rows n rows = map (λ r. bits n r.items) rows

-- there are words for n digits, and no more than one more
abbrev pub IsWide : ℕ → List ℕ → Type 0
IsWide n words = length words ≡ n / 64 + 1

abbrev pub AreWide : ℕ → List (Vec ℕ Global) → Type 0
AreWide n rows = All (λ r. IsWide n r.items) rows

-- each row has a pivot, a place where it has a 1, and 0 at the pivots of the rows before it
pub record AreStairs (n : ℕ) (rows : List (List ℕ)) (pivots : List ℕ) : Type 0 where
  pub each : AreVectors Two n rows
  pub count : length pivots ≡ length rows
  pub inside : (i : ℕ) → i < length rows → slice_index pivots i < n
  pub one : (i : ℕ) → i < length rows → slice_index (slice_index_or rows i []) (slice_index pivots i) ≡ 1
  pub zero : (k i : ℕ) → k < i → i < length rows → slice_index (slice_index_or rows i []) (slice_index pivots k) ≡ 0
