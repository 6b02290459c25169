-- The formulas that are atoms, and how their types are shown.
use Rattle.std.specs.Prelude.{ℕ, zero, suc, List, map}
use Rattle.mm_field.specs.declared.Field.{Field}
use Rattle.mm_logic.specs.Formula.{Formula}
use Rattle.mm_logic.specs.Formula.Formula.{Ind, Member, SameElem, Sub, SameSet, Not, Bin, ExSet, AllSet, ExElem, AllElem}
use Rattle.mm_logic.specs.Value.{Value, Value as value}
use Rattle.mm_base_auto.specs.declared.value.AtomValue.{AtomValue}
use Rattle.mm_base_auto.specs.declared.value.AtomValue.TheVariants as shown_as

-- a formula that is an atom
abbrev pub IsAtomic : Formula → Type 0
IsAtomic (Not F) = ⊥
IsAtomic (Bin o F G) = ⊥
IsAtomic (ExSet k F) = ⊥
IsAtomic (AllSet k F) = ⊥
IsAtomic (ExElem k F) = ⊥
IsAtomic (AllElem k F) = ⊥
IsAtomic _ = Unit {0}

abbrev pub shown_member : Value → AtomValue
shown_member (value.Flag zero) = shown_as.Unseen
shown_member (value.Flag (suc zero)) = shown_as.Yes
shown_member _ = shown_as.No

abbrev pub shown_same : Value → AtomValue
shown_same (value.Flag zero) = shown_as.Neither
shown_same (value.Flag (suc zero)) = shown_as.OnlyX
shown_same (value.Flag (suc (suc zero))) = shown_as.OnlyY
shown_same (value.Flag (suc (suc (suc zero)))) = shown_as.Same
shown_same _ = shown_as.Diff

abbrev pub shown_holding : Value → AtomValue
shown_holding (value.Flag zero) = shown_as.Holds
shown_holding _ = shown_as.Fails

abbrev pub shown_space : Field → Value → AtomValue
shown_space f (value.Span t rows) = shown_as.Space (record { f = f; t = t; rows = rows })
shown_space f _ = shown_as.Dead

-- the type of an atom over f, as it is shown
abbrev pub shown : Field → Formula → Value → AtomValue
shown f (Ind u) v = shown_space f v
shown f (Member x a) v = shown_member v
shown f (SameElem x y) v = shown_same v
shown f (Sub a b) v = shown_holding v
shown f (SameSet a b) v = shown_holding v
shown f _ v = shown_as.Unit

-- flags as values
abbrev pub flag_values : List ℕ → List Value
flag_values flags = map value.Flag flags
