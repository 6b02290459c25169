-- What a walk over the candidates of a join leaves where a table tells their types.
use Rattle.std.specs.Prelude.{◌≡◌, ◌<◌, ℕ, nat_eq, List, [], map, slice_index_or, Option, Some, None, Result, Ok, Err}
use Rattle.std.specs.declared.vec.Vec.{Vec}
use Rattle.std.specs.declared.alloc.Global.{Global}
use Rattle.mm_logic.specs.Value.{Value}
use Rattle.mm_logic.specs.Occurrence.{same}
use Rattle.mm_logic.specs.JoinRule.{all_pairs}
use Rattle.mm_states.specs.Lists.{AllFit}
use Rattle.mm_nodes.specs.declared.keeps.KeepFault.{KeepFault}
use Rattle.mm_nodes.specs.declared.keeps.KeepFault.TheVariants.{NoMemory}
use Rattle.mm_least.specs.declared.row.Row.{Row}
use Rattle.mm_least.specs.declared.row.Origin.{Origin}
use Rattle.mm_least.specs.Rows.{shown}
use Rattle.mm_least.specs.Candidates.{Candidate, put_all, held_by}
use Rattle.mm_least.specs.Transitions.{TransitionValue, named, ArePlaces, IsPlaceOf}
use Rattle.mm_least.specs.declared.log.Entry.{Entry}
use Rattle.mm_least.specs.Logs.{standing, IsLog}

-- different numbers below n stand for different types
abbrev pub TellsApart : (ℕ → Value) → ℕ → Type 0
TellsApart type n = (i k : ℕ) → i < n → k < n → same (type i) (type k) ≡ nat_eq i k

-- Numbers below n stand for types so that the table is one of this join.
pub record Reads (type : ℕ → Value) (join : Value → Value → Value) (n : ℕ) (t : TransitionValue) : Type 0 where
  pub apart : TellsApart type n
  pub below : AllFit (λ id. id < n) t.ids
  pub tells : map type (named t.ids t.table) ≡ all_pairs join (map type t.left) (map type t.right)

-- the numbers of rows are below n
abbrev pub AreBelow : ℕ → List Row → Type 0
AreBelow n rows = AllFit (λ p. p.0 < n) (shown rows)

-- Whatever the numbers stand for, the rows are the best of those before and of these candidates.
abbrev pub PutsAll : TransitionValue → ((ℕ → Value) → (Value → Value → Value) → List (Candidate Origin)) → (rows0 rows : List Row) → Type 0
PutsAll t cs rows0 rows =
    (type : ℕ → Value) (join : Value → Value → Value) (n : ℕ) → Reads type join n t → AreBelow n rows0
    → (held_by type rows ≡ put_all (cs type join) (held_by type rows0)) × AreBelow n rows

-- For each row a place at which its type is among these.
pub record AreRowPlaces (ids : List ℕ) (rows : List Row) (places : List ℕ) : Type 0 where
  pub placed : ArePlaces ids places
  pub named_so : named ids places ≡ map (λ r. r.id) rows

-- such places, unless the type of some row is missing
abbrev pub FindsPlaces : List ℕ → List Row → Result (Option (Vec ℕ Global)) KeepFault → Type 0
FindsPlaces ids rows (Ok (Some places)) = AreRowPlaces ids rows places.items
FindsPlaces ids rows (Ok None) = Unit {0}
FindsPlaces ids rows (Err e) = e ≡ NoMemory

-- for each number a place at which it is, if any
abbrev pub IsIndex : List ℕ → List (Option ℕ) → Type 0
IsIndex ids index = (id : ℕ) → IsPlaceOf ids id (slice_index_or index id None)

-- such an index, or want of memory
abbrev pub MakesIndex : List ℕ → Result (Vec (Option ℕ) Global) KeepFault → Type 0
MakesIndex ids (Ok index) = IsIndex ids index.items
MakesIndex ids (Err e) = e ≡ NoMemory

-- the entries hold the rows
abbrev pub Logs : TransitionValue → ((ℕ → Value) → (Value → Value → Value) → List (Candidate Origin)) → List Entry → List (Option ℕ) → List Entry → Result (Unit {0}) KeepFault → Type 0
Logs t cs olds lasts nows (Ok u) = IsLog t.ids lasts nows × PutsAll t cs (standing olds) (standing nows)
Logs t cs olds lasts nows (Err e) = e ≡ NoMemory

-- the rows of these candidates, unless the table lacks the type of some row
abbrev pub RowsKnown : TransitionValue → ((ℕ → Value) → (Value → Value → Value) → List (Candidate Origin)) → Result (Option (Vec Row Global)) KeepFault → Type 0
RowsKnown t cs (Ok (Some rows)) = PutsAll t cs [] rows.items
RowsKnown t cs (Ok None) = Unit {0}
RowsKnown t cs (Err e) = e ≡ NoMemory
