-- The laws of occurrence: how the values that occur in types, and their cells, grow as a list of types grows.
use Rattle.std.specs.Prelude.{◌≡◌, ◌≤◌, ◌⊎◌, ◌↔◌, ℕ, ◌+◌, List, [], ◌∷◌, ◌++◌}
use Rattle.mm_logic.specs.Formula.{Formula}
use Rattle.mm_logic.specs.Value.{Value}
use Rattle.mm_logic.specs.Occurrence.{Occurs, occurring, cells}
use Rattle.mm_logic.specs.Growth.{beside, missing_cells, AllSame}
use Rattle.mm_logic.specs.Operator.{Op}
use Rattle.mm_logic.specs.Marks.{Marks}
use Rattle.mm_logic.specs.LeafRule.{elem_type, void_type}
use Rattle.mm_logic.specs.JoinRule.{join_type}
use Rattle.mm_logic.specs.RuleValues.{elem_values, void_values, join_values}
use Rattle.mm_field.specs.declared.Field.{Field}

-- At each node the values that occur in K followed by vs are those that occur in K and those that occur in vs.
abbrev pub OccurrenceSplits : Type 0
OccurrenceSplits = (F : Formula) (K vs : List Value) → occurring F (K ++ vs) ≡ beside (occurring F K) (occurring F vs)

-- A value occurs in K followed by vs exactly where it occurs in K or in vs.
abbrev pub OccursInEither : Type 0
OccursInEither =
    (F : Formula) (K vs : List Value) (node : ℕ) (v : Value) → Occurs F (K ++ vs) node v ↔ (Occurs F K node v ⊎ Occurs F vs node v)

-- The cells of K followed by vs are those of K and those of the values that occur in vs and not in K; so they never fall.
abbrev pub CellsGrow : Type 0
CellsGrow = (F : Formula) (K vs : List Value)
    → (cells F (K ++ vs) ≡ cells F K + missing_cells F (occurring F K) vs) × (cells F K ≤ cells F (K ++ vs))

-- Cells depend only on which values occur: lists of types in which the same values occur at each node have as many cells.
abbrev pub CellsAreOfWhatOccurs : Type 0
CellsAreOfWhatOccurs =
    (F : Formula) (vs ws : List Value) → ((node : ℕ) (v : Value) → Occurs F vs node v ↔ Occurs F ws node v) → cells F vs ≡ cells F ws

-- The values that occur in a type which the leaf rule or the join rule gives are exactly those that the rule gives at the places
-- below, on the way to it.
abbrev pub RuleValuesOccur : Type 0
RuleValuesOccur =
    (f : Field) (F : Formula)
    → ((vec : List ℕ) (m : Marks) → AllSame (elem_values f F vec (m ∷ [])) (occurring F (elem_type f F vec m ∷ [])))
    × ((t : ℕ) → AllSame (void_values f F t) (occurring F (void_type f F t ∷ [])))
    × ((op : Op) (v w : Value) → AllSame (join_values f F op ((v, w) ∷ [])) (occurring F (join_type f F op v w ∷ [])))
