-- The values of the atoms other than `ind`, as flags, and their joins.
use Rattle.std.specs.Prelude.{ℕ, zero, suc, Bool, true, false, ◌==◌}
use Rattle.mm_logic.specs.Value.{Value}
use Rattle.mm_logic.specs.Value.Value.{Flag, Dead}

-- the value of `true` and `false`
abbrev pub unit : Value
unit = Flag 0

-- `x in X` where x is unassigned
abbrev pub unseen : Value
unseen = Flag 0

-- `x in X` where x is assigned: Yes and No
abbrev pub member : Bool → Value
member true = Flag 1
member false = Flag 2

-- `x = y`: None, OnlyX, OnlyY, Same and Diff, by whether x is assigned, whether y is, and whether one element is both
abbrev pub same_elem : Bool → Bool → Bool → Value
same_elem false false _ = Flag 0
same_elem true false _ = Flag 1
same_elem false true _ = Flag 2
same_elem true true true = Flag 3
same_elem true true false = Flag 4

-- `X sub Y` and `X = Y`: Holds and Fails
abbrev pub holding : Bool → Value
holding true = Flag 0
holding false = Flag 1

-- `x in X` at a join: the left value, unless it is Unseen; then the right value
abbrev pub member_join : Value → Value → Value
member_join (Flag zero) w = w
member_join v w = v

-- `x = y` at a join: the right value where the left is None, the left value where the right is None, Diff for OnlyX with OnlyY in
-- either order, and the left value for every other pair
abbrev pub same_elem_join : Value → Value → Value
same_elem_join (Flag zero) w = w
same_elem_join (Flag (suc zero)) (Flag (suc (suc zero))) = Flag 4
same_elem_join (Flag (suc (suc zero))) (Flag (suc zero)) = Flag 4
same_elem_join v w = v

-- `X sub Y` and `X = Y` at a join: Holds where both hold
abbrev pub holding_join : Value → Value → Value
holding_join (Flag zero) w = w
holding_join v w = v

abbrev pub is_flag : ℕ → Value → Bool
is_flag n (Flag k) = k == n
is_flag n _ = false

-- whether a value of `ind` is a space
abbrev pub is_alive : Value → Bool
is_alive Dead = false
is_alive _ = true
