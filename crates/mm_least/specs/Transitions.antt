-- What an operator makes of the types of two children, as it is kept.
use Rattle.std.specs.Prelude.{◌≡◌, ◌<◌, ℕ, List, map, ◌++◌, length, slice_index_or, Option, Some, None, Result, Ok, Err}
use Rattle.std.proofs.Common.{refl}
use Rattle.std.specs.Coded.{Coded, code_by, coded×, coded_ℕ, coded_list}
use Rattle.std.specs.declared.vec.Vec.{Vec}
use Rattle.std.specs.declared.alloc.Global.{Global}
use Rattle.mm_logic.specs.Formula.{Formula}
use Rattle.mm_logic.specs.Operator.{Op}
use Rattle.mm_logic.specs.Value.{Value}
use Rattle.mm_logic.specs.JoinRule.{all_pairs, join_type}
use Rattle.mm_logic.specs.Growth.{root, type_at}
use Rattle.mm_states.specs.Lists.{AllFit}
use Rattle.mm_nodes.specs.Demands.{Frame}
use Rattle.mm_nodes.specs.declared.keeps.KeepFault.{KeepFault}
use Rattle.mm_nodes.specs.declared.keeps.KeepFault.TheVariants.{NoMemory}
use Rattle.mm_least.specs.declared.row.Row.{Row}
use Rattle.mm_least.specs.BestLaws.{Different}

-- Numbers of types on the left, on the right and of what is made of them; and for each pair the place of what is made of it.
pub record TransitionValue : Type 0 where
  pub left : List ℕ
  pub right : List ℕ
  pub ids : List ℕ
  pub table : List ℕ

abbrev pub transition_code : Coded TransitionValue
transition_code =
    code_by (List ℕ × (List ℕ × (List ℕ × List ℕ))) (coded× (coded_list coded_ℕ) (coded× (coded_list coded_ℕ) (coded× (coded_list coded_ℕ) (coded_list coded_ℕ)))) (λ t. (t.left, (t.right, (t.ids, t.table))))
    (λ p. record { left = p.0; right = p.1.0; ids = p.1.1.0; table = p.1.1.1 }) (λ _. refl)

-- the numbers at places
abbrev pub named : List ℕ → List ℕ → List ℕ
named ids places = map (λ p. slice_index_or ids p 0) places

-- each is a place of one of them
abbrev pub ArePlaces : List ℕ → List ℕ → Type 0
ArePlaces ids places = AllFit (λ p. p < length ids) places

-- each number is in the list of the root
abbrev pub AreIn : Formula → List (List Value) → List ℕ → Type 0
AreIn F lists ids = AllFit (λ id. id < length (root F lists)) ids

-- The table has the types that an operator makes of each type on the left with each on the right; they are different.
pub record IsTransition (fr : Frame) (op : Op) (t : TransitionValue) : Type 0 where
  pub left_within : AreIn fr.F fr.lists t.left
  pub right_within : AreIn fr.F fr.lists t.right
  pub within : AreIn fr.F fr.lists t.ids
  pub different : Different (map (type_at fr.F fr.lists) t.ids)
  pub placed : ArePlaces t.ids t.table
  pub tells : map (type_at fr.F fr.lists) (named t.ids t.table) ≡ all_pairs (join_type fr.f fr.F op) (map (type_at fr.F fr.lists) t.left) (map (type_at fr.F fr.lists) t.right)

-- where a transition is kept, it is one of the operator
abbrev pub IsKnown : Frame → Op → Option TransitionValue → Type 0
IsKnown fr op (Some t) = IsTransition fr op t
IsKnown fr op None = Unit {0}

-- the numbers of the types of rows, or want of memory
abbrev pub ListsIds : List Row → Result (Vec ℕ Global) KeepFault → Type 0
ListsIds rows (Ok ids) = ids.items ≡ map (λ r. r.id) rows
ListsIds rows (Err e) = e ≡ NoMemory

-- a place of a number, if any
abbrev pub IsPlaceOf : List ℕ → ℕ → Option ℕ → Type 0
IsPlaceOf ids id (Some k) = (k < length ids) × (slice_index_or ids k 0 ≡ id)
IsPlaceOf ids id None = Unit {0}

-- A table has grown by numbers of these types.
pub record Told (F : Formula) (olds nows : List (List Value)) (before after : List ℕ) (vs : List Value) : Type 0 where
  pub within : AreIn F nows after
  pub tells : map (type_at F nows) after ≡ map (type_at F olds) before ++ vs

-- what is known, if anything, is the table of pairs of rows, with the places of these numbers
pub record HasTable (lefts rights : List Row) (ids table : List ℕ) (t : TransitionValue) : Type 0 where
  pub left : t.left ≡ map (λ r. r.id) lefts
  pub right : t.right ≡ map (λ r. r.id) rights
  pub ids_are : t.ids ≡ ids
  pub table_is : t.table ≡ table

abbrev pub IsTableOf : (left right : List Row) → (ids table : List ℕ) → Option TransitionValue → Type 0
IsTableOf left right ids table (Some t) = HasTable left right ids table t
IsTableOf left right ids table None = Unit {0}
