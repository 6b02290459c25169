-- Columns of rows.
use Rattle.std.specs.Prelude.{ℕ, List, map, slice_index}

-- column j of some rows: digit j of each
abbrev pub column : List (List ℕ) → ℕ → List ℕ
column rows j = map (λ v. slice_index v j) rows
