-- Rows in the order in which they were found, each with the place of its type among the types of a node.
use Rattle.std.specs.Prelude.{◌≡◌, ◌<◌, ℕ, ◌+◌, nat_eq, Bool, false, if◌then◌else◌, List, [], ◌∷◌, drop, length, slice_index_or, Option, Some, None, Result, Ok, Err}
use Rattle.std.specs.List.{list_any}
use Rattle.std.specs.declared.vec.Vec.{Vec}
use Rattle.std.specs.declared.alloc.Global.{Global}
use Rattle.mm_states.specs.Lists.{AllFit}
use Rattle.mm_nodes.specs.declared.keeps.KeepFault.{KeepFault}
use Rattle.mm_nodes.specs.declared.keeps.KeepFault.TheVariants.{NoMemory}
use Rattle.mm_least.specs.declared.row.Row.{Row}
use Rattle.mm_least.specs.declared.log.Entry.{Entry}
use Rattle.mm_least.specs.Rows.{put_row}

-- whether some entry is at a place
abbrev pub is_at : ℕ → List Entry → Bool
is_at p log = list_any (λ e. nat_eq e.place p) log

-- The rows that stand: those of the last entry at each place, in their order.
abbrev pub standing : List Entry → List Row
standing [] = []
standing (e ∷ log) = if is_at e.place log then standing log else e.row ∷ standing log

-- where the last entry at a place is, if there is one
abbrev pub IsLast : List Entry → ℕ → Option ℕ → Type 0
IsLast log p (Some k) = (k < length log) × ((d : Entry) → (slice_index_or log k d).place ≡ p) × (is_at p (drop (k + 1) log) ≡ false)
IsLast log p None = is_at p log ≡ false

-- for each place it is known where the last entry is
pub record KnowsLast (lasts : List (Option ℕ)) (log : List Entry) : Type 0 where
  pub placed : AllFit (λ e. e.place < length lasts) log
  pub last : (p : ℕ) → p < length lasts → IsLast log p (slice_index_or lasts p None)

-- each entry has the number of the type of its place
abbrev pub AreNamed : List ℕ → List Entry → Type 0
AreNamed ids log = AllFit (λ e. e.row.id ≡ slice_index_or ids e.place 0) log

-- different places have different numbers
abbrev pub AreApart : List ℕ → Type 0
AreApart ids = (p q : ℕ) → p < length ids → q < length ids → nat_eq (slice_index_or ids p 0) (slice_index_or ids q 0) ≡ nat_eq p q

-- Entries for the types of a node, whose last ones are known.
pub record IsLog (ids : List ℕ) (lasts : List (Option ℕ)) (log : List Entry) : Type 0 where
  pub long : length lasts ≡ length ids
  pub knows : KnowsLast lasts log
  pub named : AreNamed ids log

-- The row was put beside those that stand.
pub record Offered (ids : List ℕ) (row : Row) (olds : List Entry) (lasts : List (Option ℕ)) (nows : List Entry) : Type 0 where
  pub log : IsLog ids lasts nows
  pub put : standing nows ≡ put_row row (standing olds)

abbrev pub Offers : List ℕ → Row → (olds : List Entry) → List (Option ℕ) → (nows : List Entry) → Result (Unit {0}) KeepFault → Type 0
Offers ids row olds lasts nows (Ok u) = Offered ids row olds lasts nows
Offers ids row olds lasts nows (Err e) = e ≡ NoMemory

-- the rows that stand, or want of memory
abbrev pub StandsAs : List Entry → Result (Vec Row Global) KeepFault → Type 0
StandsAs log (Ok rows) = rows.items ≡ standing log
StandsAs log (Err e) = e ≡ NoMemory
