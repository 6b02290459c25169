-- The laws of meaning, types and acceptance.
use Rattle.std.specs.Prelude.{◌≡◌, ◌↔◌, ℕ, Bool, true, List, length}
use Rattle.mm_field.specs.declared.Field.{Field}
use Rattle.mm_logic.specs.Formula.{Formula}
use Rattle.mm_logic.specs.Marks.{Marks, Singles}
use Rattle.mm_logic.specs.Tree.{Tree, size, IsValid}
use Rattle.mm_logic.specs.Meaning.{Holds, holds, WellSorted}
use Rattle.mm_logic.specs.Types.{type_of}
use Rattle.mm_logic.specs.JoinRule.{joined, lettered}
use Rattle.mm_logic.specs.Acceptance.{accepts}

-- The function `holds` decides the relation `Holds`: elimination decides independence, and listing decides the quantifiers.
abbrev pub MeaningIsDecided : Type 0
MeaningIsDecided =
    (f : Field) (T : Tree) → IsValid f T → (F : Formula) (ms : List Marks) → (holds f F T ms ≡ true) ↔ Holds f F T ms

-- The type that is read from the matrix and from all sets is the one that the leaf rule and the join rule make from the leaves
-- upwards.
abbrev pub TypesAreMadeByJoins : Type 0
TypesAreMadeByJoins =
    (f : Field) (T : Tree) → IsValid f T → (F : Formula) (e : ℕ → Bool) (ms : List Marks)
    → WellSorted e F → Singles e ms → length ms ≡ size T
    → type_of f F T ms ≡ joined f F (lettered T ms)

-- A type is accepted exactly where the formula holds.
abbrev pub AcceptanceIsMeaning : Type 0
AcceptanceIsMeaning =
    (f : Field) (F : Formula) (T : Tree) (ms : List Marks)
    → (accepts F (type_of f F T ms) ≡ holds f F T ms) × (IsValid f T → (accepts F (type_of f F T ms) ≡ true) ↔ Holds f F T ms)
