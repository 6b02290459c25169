-- Rows as they are kept: by the numbers of their types.
use Rattle.std.specs.Prelude.{◌≡◌, ◌<◌, ◌+◌, ℕ, ℤ, int_lt, nat_eq, false, if◌then◌else◌, List, [], ◌∷◌, ◌++◌, map, take, length, slice_index_or, Option, Some, None, Result, Ok, Err}
use Rattle.std.specs.List.{list_any}
use Rattle.mm_least.specs.declared.row.Row.{Row}
use Rattle.mm_nodes.specs.declared.keeps.KeepFault.{KeepFault}
use Rattle.mm_nodes.specs.declared.keeps.KeepFault.TheVariants.{Full, NoMemory}

-- the first place of a row of the type with this number
abbrev pub IsPlaceIn : List Row → ℕ → Option ℕ → Type 0
IsPlaceIn rows id None = list_any (λ r. nat_eq r.id id) rows ≡ false
IsPlaceIn rows id (Some k) =
    (k < length rows) × (list_any (λ r. nat_eq r.id id) (take k rows) ≡ false) × ((d : Row) → (slice_index_or rows k d).id ≡ id)

-- A row beside others, of which no two have one type: it goes last, in place of the row of its type where it weighs less.
abbrev pub put_row : Row → List Row → List Row
put_row r [] = r ∷ []
put_row r (s ∷ rows) = if nat_eq s.id r.id then (if int_lt r.weight s.weight then rows ++ r ∷ [] else s ∷ rows) else s ∷ put_row r rows

abbrev pub Appends : Row → (olds nows : List Row) → Result (Unit {0}) KeepFault → Type 0
Appends r olds nows (Ok u) = nows ≡ olds ++ r ∷ []
Appends r olds nows (Err e) = e ≡ NoMemory

-- the row was put in place of one
abbrev pub Puts : Row → (olds nows : List Row) → Result (Unit {0}) KeepFault → Type 0
Puts r olds nows (Ok u) = (nows ≡ put_row r olds) × (length nows ≡ length olds)
Puts r olds nows (Err e) = e ≡ NoMemory

-- The row was put, and took one of the room where there is one row more. Full only where that had no room.
abbrev pub AddsRow : Row → (olds nows : List Row) → (before after : ℕ) → Result (Unit {0}) KeepFault → Type 0
AddsRow r olds nows before after (Ok u) = (nows ≡ put_row r olds) × (after + length nows ≡ before + length olds)
AddsRow r olds nows before after (Err e) = e ≡ Full → before + length olds < length (put_row r olds)

-- what others can tell of rows: the numbers of their types, and weights
abbrev pub shown : List Row → List (ℕ × ℤ)
shown rows = map (λ r. (r.id, r.weight)) rows
