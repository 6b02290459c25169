-- The values of `ind` in the code, and what they stand for.
use Rattle.std.specs.Prelude.{◌≡◌, ℕ, List, All, map}
use base.Stored.{Coded-set}
use Rattle.std.specs.Coded.{coded_list, coded_ℕ}
use Rattle.std.proofs.Math.Bridge.{le_prop}
use Rattle.std.proofs.Math.Nat.{ℕ_set}
use Rattle.mm_field.specs.declared.Field.{Field}
use Rattle.mm_field.specs.contracts.Field as field_row
use Rattle.mm_logic.specs.Value.{Value, Value as value}
use Rattle.mm_space.specs.KeyView.{IsReduced}
use Rattle.mm_base_auto.specs.declared.space.IndValue.{IndValue}
use Rattle.mm_base_auto.specs.declared.space.IndValue.TheVariants.{Dead, Space}

abbrev pub ind_value : IndValue → Value
ind_value Dead = value.Dead
ind_value (Space key) = value.Span key.t key.rows

abbrev pub ind_values : List IndValue → List Value
ind_values vs = map ind_value vs

-- a space over f, by its reduced basis
abbrev pub IsSpaceOver : Field → IndValue → Type 0
IsSpaceOver f Dead = Unit {0}
IsSpaceOver f (Space key) = (key.f ≡ f) × IsReduced key

-- a value that can be joined at a boundary of t digits
abbrev pub CanJoinSpaces : Field → ℕ → IndValue → Type 0
CanJoinSpaces f t Dead = Unit {0}
CanJoinSpaces f t (Space key) = (key.f ≡ f) × (key.t ≡ t)

pub field_set : IsSet Field
field_set = Coded-set (field_row.the_row).coded

pub rows_set : IsSet (List (List ℕ))
rows_set = Coded-set (coded_list (coded_list coded_ℕ))

pub prop_space : (f : Field) (v : IndValue) → IsProp (IsSpaceOver f v)
prop_space f Dead = hlevel
prop_space f (Space key) = hlevel (field_set, le_prop, ℕ_set, rows_set)

pub prop_spaces : (f : Field) (vs : List IndValue) → IsProp (All (IsSpaceOver f) vs)
prop_spaces f vs = hlevel (prop_space f)
