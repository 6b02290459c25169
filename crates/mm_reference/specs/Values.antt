-- The values that the program holds, as those of the definitions.
use Rattle.std.specs.Prelude.{◌≡◌, List, map}
use Rattle.std.specs.Borrow.{Bor}
use Rattle.mm_logic.specs.Order.{insert}
use Rattle.mm_logic.specs.Value as value
use Rattle.mm_reference_meaning.specs.Rows.{rows_of}
use Rattle.mm_reference.specs.declared.values.Value.{Value, Flag, Dead, Span, Pair', Empty, With'}

abbrev pub value_of : Value → value.Value
value_of (Flag n) = value.Value.Flag n
value_of Dead = value.Value.Dead
value_of (Span t rows) = value.Value.Span t (rows_of rows.items)
value_of (Pair' p v q w) = value.Value.Pair (value_of v) (value_of w)
value_of Empty = value.Value.Empty
value_of (With' p v q w) = value.Value.With (value_of v) (value_of w)

abbrev pub values_of : List Value → List value.Value
values_of vs = map value_of vs

-- the values that the program looks at
abbrev pub seen_of : List (Bor Value) → List value.Value
seen_of vs = map (λ v. value_of v.now) vs

-- s is a set, and r is that set with v at its place, unless v is there
abbrev pub IsInserted : (v s r : value.Value) → Type 0
IsInserted v s r = (ws : List value.Value) → s ≡ value.set_of ws → r ≡ value.set_of (insert value.value_cmp v ws)
