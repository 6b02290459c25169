-- What a call of an automaton needs, and what it leaves.
use Rattle.std.specs.Prelude.{◌≡◌, ℕ, ◌+◌, ◌^◌, ◌<◌, ◌≤◌, List, [], ◌∷◌, length, Result, Ok, Err}
use Rattle.mm_field.specs.declared.Field.{Field}
use Rattle.mm_logic.specs.Formula.{Formula}
use Rattle.mm_logic.specs.Value.{Value}
use Rattle.mm_logic.specs.PossibleValues.{IsValueOf}
use Rattle.mm_logic.specs.Occurrence.{nodes, occurring, list_cells}
use Rattle.mm_logic.specs.Growth.{root, type_at, missing_cells, AllGrown, AllGrew}
use Rattle.mm_ops.specs.OpValue.{OpValue}
use Rattle.mm_states.specs.declared.letter.Letter.{Letter}
use Rattle.mm_states.specs.declared.letter.AutoFault.{AutoFault}
use Rattle.mm_states.specs.declared.letter.AutoFault.TheVariants.{Full}
use Rattle.mm_states.specs.Letters.{IsLetter, IsOver, joined_type}

-- The cells of the lists with room are below 2^32.
abbrev pub IsRoomy : Formula → List (List Value) → ℕ → Type 0
IsRoomy F lists room = list_cells (nodes F) lists + room < 2 ^ 32

-- A leaf can be asked of an automaton of F over g with these lists.
pub record CanRead (F : Formula) (g : Field) (lists : List (List Value)) (letter : Letter) (room : ℕ) : Type 0 where
  pub field : IsOver F g letter.field
  pub readable : IsLetter letter
  pub roomy : IsRoomy F lists room

-- A number can be joined: it is in the list, and its value is one of F over f whose spaces are of F^t.
pub record IsOperand (F : Formula) (f : Field) (t : ℕ) (lists : List (List Value)) (id : ℕ) : Type 0 where
  pub within : id < length (root F lists)
  pub value : IsValueOf f t F (type_at F lists id)

-- A join can be asked.
pub record CanJoin (F : Formula) (g : Field) (lists : List (List Value)) (op : OpValue) (left right room : ℕ) : Type 0 where
  pub field : IsOver F g op.f
  pub left_operand : IsOperand F op.f op.op.t1 lists left
  pub right_operand : IsOperand F op.f op.op.t2 lists right
  pub roomy : IsRoomy F lists room

-- The value of a join of two numbers.
abbrev pub value_of_join : Formula → List (List Value) → OpValue → (left right : ℕ) → Value
value_of_join F lists op left right = joined_type F op (type_at F lists left) (type_at F lists right)

-- The call gave the number of the value v of F. The lists were olds and are nows: each grew by exactly the values that occur in v
-- and were missing.
pub record Numbers (F : Formula) (v : Value) (olds nows : List (List Value)) (id : ℕ) : Type 0 where
  pub within : id < length (root F nows)
  pub value : type_at F nows id ≡ v
  pub grown : AllGrown olds nows (occurring F (v ∷ []))

-- What a call for the value v answers: its number, where the cells that were missing are within room; else Full exactly where they
-- exceed it, or want of memory. After a refusal each list has grown by some values.
abbrev pub Answers : Formula → Value → (olds nows : List (List Value)) → (room : ℕ) → Result ℕ AutoFault → Type 0
Answers F v olds nows room (Ok id) = Numbers F v olds nows id × (missing_cells F olds (v ∷ []) ≤ room)
Answers F v olds nows room (Err e) = AllGrew olds nows × (e ≡ Full → room < missing_cells F olds (v ∷ []))
