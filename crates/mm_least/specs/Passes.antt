-- What a walk over candidates leaves.
use Rattle.std.specs.Prelude.{◌≡◌, ◌<◌, ◌≤◌, ◌+◌, ◌*◌, ℕ, ℤ, nat_abs, List, length, Result, Ok, Err}
use Rattle.mm_logic.specs.Formula.{Formula}
use Rattle.mm_logic.specs.Value.{Value}
use Rattle.mm_logic.specs.Occurrence.{nodes, occurring, list_cells}
use Rattle.mm_logic.specs.Growth.{root, missing_cells, AllGrown}
use Rattle.mm_states.specs.Lists.{AllFit}
use Rattle.mm_states.specs.Calls.{IsOperand}
use Rattle.mm_states.specs.declared.letter.AutoFault.{AutoFault}
use Rattle.mm_states.specs.declared.letter.AutoFault.TheVariants as auto
use Rattle.mm_tree.specs.ValidTree.{most_leaves, most_weight}
use Rattle.mm_field.specs.declared.Field.{Field}
use Rattle.mm_least.specs.declared.row.Row.{Row}
use Rattle.mm_least.specs.declared.row.Origin.{Origin}
use Rattle.mm_least.specs.Rows.{shown}
use Rattle.mm_least.specs.Candidates.{Candidate, put_all, types_of, held}
use Rattle.mm_nodes.specs.declared.keeps.KeepFault.{KeepFault}
use Rattle.mm_nodes.specs.declared.keeps.KeepFault.TheVariants.{Full, NoMemory}

-- each number is in the list of the root
abbrev pub AreWithin : Formula → List (List Value) → List (ℕ × ℤ) → Type 0
AreWithin F lists ps = AllFit (λ p. p.0 < length (root F lists)) ps

-- The lists grew by the types of the candidates, the rows hold the best of each type, and what was needed was taken from the room.
pub record Passed (F : Formula) (olds nows : List (List Value)) (cs : List (Candidate Origin)) (rows0 rows : List Row) (room0 room : ℕ) : Type 0 where
  pub grown : AllGrown olds nows (occurring F (types_of cs))
  pub within : AreWithin F nows (shown rows)
  pub best : held F nows rows ≡ put_all cs (held F olds rows0)
  pub taken : room + length rows + list_cells (nodes F) nows ≡ room0 + length rows0 + list_cells (nodes F) olds
  pub roomy : list_cells (nodes F) nows + room ≤ list_cells (nodes F) olds + room0

-- The missing cells of the candidates' types and their rows exceed the room beside the rows.
abbrev pub AreTooMany : Formula → List (List Value) → List (Candidate Origin) → List Row → ℕ → Type 0
AreTooMany F olds cs rows0 room0 = room0 + length rows0 < missing_cells F olds (types_of cs) + length (put_all cs (held F olds rows0))

abbrev pub Passes : Formula → (olds nows : List (List Value)) → List (Candidate Origin) → (rows0 rows : List Row) → (room0 room : ℕ) → Result (Unit {0}) KeepFault → Type 0
Passes F olds nows cs rows0 rows room0 room (Ok u) = Passed F olds nows cs rows0 rows room0 room
Passes F olds nows cs rows0 rows room0 room (Err e) = e ≡ Full → AreTooMany F olds cs rows0 room0

-- the same fault
abbrev pub IsFaultOf : AutoFault → KeepFault → Type 0
IsFaultOf auto.Full e = e ≡ Full
IsFaultOf auto.NoMemory e = e ≡ NoMemory

-- no set of a tree weighs more, or less than its negative
abbrev pub most_sum : ℕ
most_sum = most_leaves * most_weight

abbrev pub AreOperands : Formula → Field → ℕ → List (List Value) → List (ℕ × ℤ) → Type 0
AreOperands F f t lists ps = AllFit (λ p. IsOperand F f t lists p.0) ps

abbrev pub AreLight : List (ℕ × ℤ) → Type 0
AreLight ps = AllFit (λ p. nat_abs p.1 ≤ most_sum) ps
