-- What a grid and a cache answer: the numbers of joins, by the number of the operator and the numbers of the two types.
use Rattle.std.specs.Prelude.{◌≡◌, ◌⊎◌, ℕ, ◌+◌, ◌*◌, ◌/◌, ◌%◌, ◌^◌, ◌==◌, Bool, not, ◌&&◌, nat_lt, List, slice_index_or, slice_get, Option, Some, None, if◌then◌else◌}
use Rattle.mm_states.specs.declared.grid.TheConstants.{NOTHING}
use Rattle.mm_states.specs.declared.cache.Slot.{Slot}

-- the number in a cell
abbrev pub number_in : ℕ → Option ℕ
number_in id = if id == NOTHING then None else Some id

-- both numbers are below the width of a grid
abbrev pub covers : ℕ → ℕ → ℕ → Bool
covers width left right = nat_lt left width && nat_lt right width

-- what a grid answers
abbrev pub grid_answer : ℕ → List ℕ → ℕ → ℕ → Option ℕ
grid_answer width cells left right = if covers width left right then number_in (slice_index_or cells (left * width + right) NOTHING) else None

-- what is answered was answered before
abbrev pub ForgetsIn : (ℕ → ℕ → Option ℕ) → (ℕ → ℕ → Option ℕ) → Type 0
ForgetsIn old new = (l r i : ℕ) → new l r ≡ Some i → old l r ≡ Some i

-- what is answered was answered before, or is this join
abbrev pub KeepsIn : (ℕ → ℕ → Option ℕ) → (ℕ → ℕ → Option ℕ) → (left right id : ℕ) → Type 0
KeepsIn old new left right id = (l r i : ℕ) → new l r ≡ Some i → ((l ≡ left) × (r ≡ right) × (i ≡ id)) ⊎ (old l r ≡ Some i)

-- a join spread over 64 bits
abbrev pub spread : ℕ → ℕ → ℕ → ℕ
spread op left right = (left * 4294967296 + right + op * 13787848793156543929 % 2 ^ 64) % 2 ^ 64 * 11400714819323198485 % 2 ^ 64

-- what a place of a cache answers of a join
abbrev pub slot_answer : Option Slot → ℕ → ℕ → ℕ → Option ℕ
slot_answer None op left right = None
slot_answer (Some s) op left right = if s.op == op && s.left == left && s.right == right && not (s.id == NOTHING) then Some s.id else None

-- what a cache answers
abbrev pub cache_answer : ℕ → List Slot → ℕ → ℕ → ℕ → Option ℕ
cache_answer shift slots op left right = slot_answer (slice_get slots (spread op left right / 2 ^ shift)) op left right

-- ---- by operators

-- what is answered was answered before
abbrev pub Forgets : (ℕ → ℕ → ℕ → Option ℕ) → (ℕ → ℕ → ℕ → Option ℕ) → Type 0
Forgets old new = (o l r i : ℕ) → new o l r ≡ Some i → old o l r ≡ Some i

-- what is answered was answered before, or is this join
abbrev pub Keeps : (ℕ → ℕ → ℕ → Option ℕ) → (ℕ → ℕ → ℕ → Option ℕ) → (op left right id : ℕ) → Type 0
Keeps old new op left right id = (o l r i : ℕ) → new o l r ≡ Some i → ((o ≡ op) × (l ≡ left) × (r ≡ right) × (i ≡ id)) ⊎ (old o l r ≡ Some i)
