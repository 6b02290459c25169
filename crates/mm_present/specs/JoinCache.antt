-- The digits in the joins by the operators that were met so far.
use Rattle.std.specs.Prelude.{ℕ, ◌≡◌, List, All, Some, slice_get}
use Rattle.std.specs.Map.{values_of}
use Rattle.mm_logic.specs.Operator.{row_length}
use Rattle.mm_ops.specs.OpValue.{OpValue}
use Rattle.mm_logic_laws.specs.MatrixLaws.{digits_at_join}
use Rattle.mm_present.specs.declared.join_cache.JoinDigits.{JoinDigits}

-- the digits that the rows of G1 and of G2 have in a join by the operator
pub record AreDigitsOf (op : OpValue) (digits : JoinDigits) : Type 0 where
  pub first : digits.first ≡ record { f = op.f; cols = row_length op.op; rows = digits_at_join op.f op.op op.op.g1 }
  pub second : digits.second ≡ record { f = op.f; cols = row_length op.op; rows = digits_at_join op.f op.op op.op.g2 }

-- each operator has the digits in a join by it
pub record AreKnown (entries : List (OpValue × JoinDigits)) : Type 0 where
  pub each : All (λ (entry : OpValue × JoinDigits). AreDigitsOf entry.0 entry.1) entries

-- place i has the digits in a join by the operator
abbrev pub IsKnownAt : OpValue → ℕ → List (OpValue × JoinDigits) → Type 0
IsKnownAt op i entries = (digits : JoinDigits) → slice_get (values_of entries) i ≡ Some digits → AreDigitsOf op digits
