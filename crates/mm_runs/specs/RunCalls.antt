-- What a run is, and what a call for one answers.
use Rattle.std.specs.Prelude.{◌≡◌, ◌<◌, ◌≤◌, ℕ, List, ◌∷◌, [], length, Result, Ok, Err}
use Rattle.mm_logic.specs.Formula.{Formula}
use Rattle.mm_logic.specs.Operator.{Op}
use Rattle.mm_logic.specs.Value.{Value}
use Rattle.mm_logic.specs.Growth.{root, type_at, missing_cells, AllGrew}
use Rattle.mm_logic.specs.JoinRule.{join_type, joined, lettered}
use Rattle.mm_logic.specs.Marks.{unmarked}
use Rattle.mm_logic.specs.Tree.{size}
use Rattle.mm_states.specs.Calls.{Numbers}
use Rattle.mm_states.specs.declared.letter.AutoFault.{AutoFault}
use Rattle.mm_states.specs.declared.letter.AutoFault.TheVariants as auto
use Rattle.mm_tree.specs.NamedTree.{Tree, shape}
use Rattle.mm_nodes.specs.Demands.{Frame}
use Rattle.mm_nodes.specs.declared.keeps.KeepFault.{KeepFault}
use Rattle.mm_nodes.specs.declared.keeps.KeepFault.TheVariants.{Full, NoMemory}

-- The number is that of the type that is made at the leaf.
pub record IsLeafRun (fr : Frame) (T : Tree) (id : ℕ) : Type 0 where
  pub within : id < length (root fr.F fr.lists)
  pub value : type_at fr.F fr.lists id ≡ joined fr.f fr.F (lettered (shape T) (unmarked (size (shape T))))

-- The number is that of the type that the join rule makes of the types of two numbers.
pub record IsJoinRun (fr : Frame) (op : Op) (left right id : ℕ) : Type 0 where
  pub left_within : left < length (root fr.F fr.lists)
  pub right_within : right < length (root fr.F fr.lists)
  pub within : id < length (root fr.F fr.lists)
  pub value : type_at fr.F fr.lists id ≡ join_type fr.f fr.F op (type_at fr.F fr.lists left) (type_at fr.F fr.lists right)

-- What a call for the run of the value v answers: its number, where the missing cells are within the room; else Full exactly where they
-- exceed it, or want of memory. After a refusal each list has grown by some values.
abbrev pub Runs : Formula → Value → (olds nows : List (List Value)) → (room : ℕ) → Result ℕ KeepFault → Type 0
Runs F v olds nows room (Ok id) = Numbers F v olds nows id × (missing_cells F olds (v ∷ []) ≤ room)
Runs F v olds nows room (Err e) = AllGrew olds nows × (e ≡ Full → room < missing_cells F olds (v ∷ []))

-- the same answer as a run
abbrev pub IsRunOf : Result ℕ AutoFault → Result ℕ KeepFault → Type 0
IsRunOf (Ok id) (Ok run) = run ≡ id
IsRunOf (Err auto.Full) (Err e) = e ≡ Full
IsRunOf (Err auto.NoMemory) (Err e) = e ≡ NoMemory
IsRunOf _ _ = ⊥
