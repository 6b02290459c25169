-- Tables of named operators.
use Rattle.std.specs.Prelude.{ℕ, ◌≡◌, nat_le, Bool, false, List, [], ◌∷◌, length, Option, Some, None, Ok, Err, if◌then◌else◌}
use Rattle.std.specs.List.{list_any}
use Rattle.std.specs.Str.{bytes_eq}
use Rattle.std.specs.declared.result.Result.{Result}
use Rattle.mm_ops.specs.declared.table.TheConstants.{MAX_OPS}
use Rattle.mm_ops.specs.OpValue.{OpValue}
use Rattle.mm_ops.specs.declared.table.OpTableFault.{OpTableFault}
use Rattle.mm_ops.specs.declared.table.OpTableFault.TheVariants.{NameTaken, Full, NoMemory}

-- the operators with their names, in the order in which they were added
abbrev pub OperatorList : Type 0
OperatorList = List (List ℕ × OpValue)

-- the operator of a name
abbrev pub op_named : List ℕ → OperatorList → Option OpValue
op_named name [] = None
op_named name (entry ∷ entries) = if bytes_eq name entry.0 then Some entry.1 else op_named name entries

abbrev pub has_name : List ℕ → OperatorList → Bool
has_name name entries = list_any (λ (entry : List ℕ × OpValue). bytes_eq name entry.0) entries

-- no two operators have one name
abbrev pub NamesDiffer : OperatorList → Type 0
NamesDiffer [] = Unit {0}
NamesDiffer (entry ∷ entries) = (has_name entry.0 entries ≡ false) × NamesDiffer entries

-- Why an operator is not added: its name is there, or 4096 operators are.
abbrev pub refusal_of : List ℕ → OperatorList → Option OpTableFault
refusal_of name entries = if has_name name entries then Some NameTaken else (if nat_le MAX_OPS (length entries) then Some Full else None)

-- what adding an operator answers, by its refusal; memory may be missing at any time
abbrev pub Answers : Result (Unit {0}) OpTableFault → Option OpTableFault → Type 0
Answers (Ok u) refusal = refusal ≡ None
Answers (Err NoMemory) refusal = Unit {0}
Answers (Err e) refusal = refusal ≡ Some e
