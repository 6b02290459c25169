-- Operators by their numbers in a list, and what is answered of joins by operators.
use Rattle.std.specs.Prelude.{◌≡◌, ◌⊎◌, ℕ, ◌<◌, Bool, List, length, Option, Some, None}
use Rattle.std.specs.List.{position}
use Rattle.std.proofs.Math.Bridge.{le_prop}
use Rattle.mm_ops.specs.OpValue.{OpValue}
use Rattle.mm_ops.specs.contracts.op.OpPartialEq.TheImpl.{eq-value as op_eq}

-- whether two operators are one
abbrev pub op_same : OpValue → OpValue → Bool
op_same a b = (op_eq).it a b

-- the number of an operator
abbrev pub number_of : List OpValue → OpValue → Option ℕ
number_of ops op = position (op_same op) ops

abbrev pub with_number : (ℕ → ℕ → ℕ → Option ℕ) → Option ℕ → ℕ → ℕ → Option ℕ
with_number answers None left right = None
with_number answers (Some n) left right = answers n left right

-- what is answered of a join by an operator, by answers for numbers
abbrev pub answer_by : List OpValue → (ℕ → ℕ → ℕ → Option ℕ) → OpValue → ℕ → ℕ → Option ℕ
answer_by ops answers op left right = with_number answers (number_of ops op) left right

-- each answer is for a number that an operator has
abbrev pub IsNumbered : List OpValue → (ℕ → ℕ → ℕ → Option ℕ) → Type 0
IsNumbered ops answers = (n l r i : ℕ) → answers n l r ≡ Some i → n < length ops

pub prop_numbered : (ops : List OpValue) (answers : ℕ → ℕ → ℕ → Option ℕ) → IsProp (IsNumbered ops answers)
prop_numbered ops answers = hlevel (le_prop)

-- what is answered was answered before
abbrev pub ForgetsJoins : (OpValue → ℕ → ℕ → Option ℕ) → (OpValue → ℕ → ℕ → Option ℕ) → Type 0
ForgetsJoins old new = (o : OpValue) (l r i : ℕ) → new o l r ≡ Some i → old o l r ≡ Some i

-- what is answered was answered before, or is this join
abbrev pub KeepsJoin : (OpValue → ℕ → ℕ → Option ℕ) → (OpValue → ℕ → ℕ → Option ℕ) → OpValue → (left right id : ℕ) → Type 0
KeepsJoin old new op left right id =
    (o : OpValue) (l r i : ℕ) → new o l r ≡ Some i → ((o ≡ op) × (l ≡ left) × (r ≡ right) × (i ≡ id)) ⊎ (old o l r ≡ Some i)
