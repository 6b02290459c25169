-- What is known of joins by the operators that were met.
use Rattle.std.specs.Prelude.{◌≡◌, ℕ, List, Option, Some, None, slice_get}
use Rattle.mm_logic.specs.Formula.{Formula}
use Rattle.mm_logic.specs.Value.{Value}
use Rattle.mm_ops.specs.OpValue.{OpValue}
use Rattle.mm_states.specs.Lists.{AllFit}
use Rattle.mm_nodes.specs.declared.keeps.Keeps.{Ghosts}

-- For each operator, what is known of joins by it is right.
pub record AreKnown {N : Type 0} (K : Ghosts N) (F : Formula) (lists : List (List Value)) (entries : List (OpValue × N)) : Type 0 where
  pub each : AllFit (λ (e : OpValue × N). K.Knows (record { f = e.0.f; F = F; lists = lists }) e.0.op e.1) entries

module _ {N : Type 0} where
  -- the operator is at the place, if there is one
  abbrev pub IsAt : OpValue → List (OpValue × N) → Option ℕ → Type 0
  IsAt op entries (Some place) = (n : N) × (slice_get entries place ≡ Some (op, n))
  IsAt op entries None = Unit {0}

-- All stays right, where what n knows of joins by the operator is.
pub record Learns {N : Type 0} (K : Ghosts N) (op : OpValue) (n : N) (olds nows : List (OpValue × N)) : Type 0 where
  pub right : (F : Formula) (lists : List (List Value)) → AreKnown K F lists olds → K.Knows (record { f = op.f; F = F; lists = lists }) op.op n → AreKnown K F lists nows
