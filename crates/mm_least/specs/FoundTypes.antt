-- The types that a walk over the pairs of a join has found, each with its place, and the rows found for them.
use Rattle.std.specs.Prelude.{◌≡◌, ◌<◌, ◌+◌, ℕ, nat_eq, Bool, false, if◌then◌else◌, List, [], ◌∷◌, ◌++◌, length, slice_index_or, Option, Some, None, Result, Ok, Err}
use Rattle.std.specs.List.{list_any}
use Rattle.mm_states.specs.Lists.{AllFit}
use Rattle.mm_nodes.specs.declared.keeps.KeepFault.{KeepFault}
use Rattle.mm_nodes.specs.declared.keeps.KeepFault.TheVariants.{Full, NoMemory}
use Rattle.mm_least.specs.declared.row.Row.{Row}
use Rattle.mm_least.specs.declared.log.Entry.{Entry}
use Rattle.mm_least.specs.declared.found.Found.{Found}
use Rattle.mm_least.specs.Rows.{put_row}
use Rattle.mm_least.specs.Logs.{standing, AreApart, IsLog, Offered}
use Rattle.mm_least.specs.Transitions.{named, ArePlaces}

-- whether a number is one of these
abbrev pub is_in : ℕ → List ℕ → Bool
is_in id ids = list_any (λ i. nat_eq i id) ids

-- whether there is a row of the type with this number
abbrev pub has_row : ℕ → List Row → Bool
has_row id rows = list_any (λ r. nat_eq r.id id) rows

-- a place of a number, or none where it has none
abbrev pub IsPlaceAmong : List ℕ → ℕ → Option ℕ → Type 0
IsPlaceAmong ids id (Some p) = (p < length ids) × (slice_index_or ids p 0 ≡ id)
IsPlaceAmong ids id None = is_in id ids ≡ false

-- Numbers of types, each of them once, with the place of each number, and entries for them, one row standing for each; and a table in
-- which each of them occurs.
pub record AreFound (ids : List ℕ) (places : List (Option ℕ)) (lasts : List (Option ℕ)) (log : List Entry) (table : List ℕ) : Type 0 where
  pub logged : IsLog ids lasts log
  pub apart : AreApart ids
  pub placed : (id : ℕ) → IsPlaceAmong ids id (slice_index_or places id None)
  pub tabled : ArePlaces ids table
  pub occur : (n : ℕ) → AllFit (λ id. id < n) (named ids table) → AllFit (λ id. id < n) ids
  pub counted : length (standing log) ≡ length ids
  pub kinds : (id : ℕ) → has_row id (standing log) ≡ is_in id ids

abbrev pub IsFound : Found → Type 0
IsFound s = AreFound s.ids.items s.places.items s.lasts.items s.log.items s.table.items

-- the rows that stand
abbrev pub rows_of : Found → List Row
rows_of s = standing s.log.items

-- for each pair the number of its type
abbrev pub names_of : Found → List ℕ
names_of s = named s.ids.items s.table.items

-- nothing was found
pub record IsNothingFound (s : Found) : Type 0 where
  pub found : IsFound s
  pub rows : rows_of s ≡ []
  pub names : names_of s ≡ []

-- a list of places has one for a number, and the places are as before
abbrev pub Reaches : ℕ → (olds nows : List (Option ℕ)) → Result (Unit {0}) KeepFault → Type 0
Reaches id olds nows (Ok u) = (id < length nows) × ((k : ℕ) → slice_index_or nows k None ≡ slice_index_or olds k None)
Reaches id olds nows (Err e) = e ≡ NoMemory

-- a number has this place, and the other places are as before
abbrev pub SetsPlace : ℕ → ℕ → (olds nows : List (Option ℕ)) → Result (Unit {0}) KeepFault → Type 0
SetsPlace id place olds nows (Ok u) = (k : ℕ) → slice_index_or nows k None ≡ (if nat_eq id k then Some place else slice_index_or olds k None)
SetsPlace id place olds nows (Err e) = e ≡ NoMemory

-- A type has the last place, without a row so far.
pub record IsAdded (id : ℕ) (olds nows : Found) (place : ℕ) : Type 0 where
  pub last : place ≡ length olds.ids.items
  pub ids : nows.ids.items ≡ olds.ids.items ++ id ∷ []
  pub places : (k : ℕ) → slice_index_or nows.places.items k None ≡ (if nat_eq id k then Some place else slice_index_or olds.places.items k None)
  pub lasts : nows.lasts.items ≡ olds.lasts.items ++ None ∷ []
  pub log : nows.log.items ≡ olds.log.items
  pub table : nows.table.items ≡ olds.table.items

abbrev pub AddsType : ℕ → (olds nows : Found) → Result ℕ KeepFault → Type 0
AddsType id olds nows (Ok place) = IsAdded id olds nows place
AddsType id olds nows (Err e) = e ≡ NoMemory

-- A row was put beside those that stand, and its place in the table.
pub record IsEntered (place : ℕ) (row : Row) (olds nows : Found) : Type 0 where
  pub ids : nows.ids.items ≡ olds.ids.items
  pub places : nows.places.items ≡ olds.places.items
  pub table : nows.table.items ≡ olds.table.items ++ place ∷ []
  pub offered : Offered olds.ids.items row olds.log.items nows.lasts.items nows.log.items

abbrev pub Enters : ℕ → Row → (olds nows : Found) → Result (Unit {0}) KeepFault → Type 0
Enters place row olds nows (Ok u) = IsEntered place row olds nows
Enters place row olds nows (Err e) = e ≡ NoMemory

-- The row of a pair was put beside those that stand.
pub record IsPut (row : Row) (olds nows : Found) : Type 0 where
  pub found : IsFound nows
  pub rows : rows_of nows ≡ put_row row (rows_of olds)
  pub names : names_of nows ≡ names_of olds ++ row.id ∷ []

-- the row of a pair whose type has a row, or want of memory
abbrev pub PutsFound : Row → (olds nows : Found) → Result (Unit {0}) KeepFault → Type 0
PutsFound row olds nows (Ok u) = IsPut row olds nows × (length (rows_of nows) ≡ length (rows_of olds))
PutsFound row olds nows (Err e) = e ≡ NoMemory

-- the row of a pair whose type has none, or want of memory
abbrev pub PutsNew : Row → (olds nows : Found) → Result (Unit {0}) KeepFault → Type 0
PutsNew row olds nows (Ok u) = IsPut row olds nows × (rows_of nows ≡ rows_of olds ++ row ∷ [])
PutsNew row olds nows (Err e) = e ≡ NoMemory

-- The row of a pair whose type has none was put, and took one of the room. Full only where that had no room.
abbrev pub AddsFound : Row → (olds nows : Found) → (before after : ℕ) → Result (Unit {0}) KeepFault → Type 0
AddsFound row olds nows before after (Ok u) = IsPut row olds nows × (rows_of nows ≡ rows_of olds ++ row ∷ []) × (after + 1 ≡ before)
AddsFound row olds nows before after (Err e) = e ≡ Full → before ≡ 0
