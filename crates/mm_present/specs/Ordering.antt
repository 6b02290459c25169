-- Places in a row.
use Rattle.std.specs.Prelude.{ℕ, ◌<◌, Option, Some, None}

-- a place, if there is one, is below n
abbrev pub IsPlaceBelow : ℕ → Option ℕ → Type 0
IsPlaceBelow n None = Unit {0}
IsPlaceBelow n (Some i) = i < n
