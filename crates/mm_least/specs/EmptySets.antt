-- Rows whose set is empty.
use Rattle.std.specs.Prelude.{◌≡◌, ℕ, List, slice_index_or, Option, Some, None}
use Rattle.mm_least.specs.declared.row.Row.{Row}
use Rattle.mm_least.specs.declared.row.Origin.{Origin}
use Rattle.mm_least.specs.declared.row.Origin.TheVariants.{Pair}

-- the row at a place, if there is one, comes from there
abbrev pub ComesAt : List Row → Origin → Option ℕ → Type 0
ComesAt rows origin (Some p) = (d : Row) → (slice_index_or rows p d).origin ≡ origin
ComesAt rows origin None = Unit {0}

-- the row at a place, if there is one, comes from these two places of the children
abbrev pub ComesFromBoth : (left right : Option ℕ) → List Row → Option ℕ → Type 0
ComesFromBoth (Some i) (Some j) rows place = ComesAt rows (Pair i j) place
ComesFromBoth (Some i) None rows place = place ≡ None
ComesFromBoth None right rows place = place ≡ None
