-- Digits in an array of fixed length: a vector, and then zeros.
use Rattle.std.specs.Prelude.{ℕ, ◌<◌, ◌≤◌, ◌≡◌, List, slice_index}

-- the array has zeros from place n on
abbrev pub ZeroAfter : ℕ → List ℕ → Type 0
ZeroAfter n digits = (k : ℕ) → n ≤ k → k < 24 → slice_index digits k ≡ 0
