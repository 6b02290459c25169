-- Which values a formula over f may have at a boundary of t digits.
use Rattle.std.specs.Prelude.{ℕ, ◌<◌, ◌≡◌, All}
use Rattle.mm_field.specs.declared.Field.{Field}
use Rattle.mm_linear.specs.ReducedEchelon.{IsReducedBasis}
use Rattle.mm_logic.specs.Formula.{Formula}
use Rattle.mm_logic.specs.Formula.Formula.{Const, Ind, Member, SameElem, Sub, SameSet, Not, Bin, ExSet, AllSet, ExElem, AllElem}
use Rattle.mm_logic.specs.Order.{Rising}
use Rattle.mm_logic.specs.Value.{Value, members, set_of, value_cmp}
use Rattle.mm_logic.specs.Value.Value.{Flag, Dead, Span, Pair}

-- one of the first k flags
abbrev pub IsFlagBelow : ℕ → Value → Type 0
IsFlagBelow k (Flag n) = n < k
IsFlagBelow k _ = ⊥

-- Dead, or a subspace of F^t by its reduced echelon basis
abbrev pub IsSpaceOf : Field → ℕ → Value → Type 0
IsSpaceOf f t Dead = Unit {0}
IsSpaceOf f t (Span u rows) = (u ≡ t) × IsReducedBasis f t rows
IsSpaceOf f t _ = ⊥

-- a pair of a value with P and one with Q
abbrev pub IsPairOf : (Value → Type 0) → (Value → Type 0) → Value → Type 0
IsPairOf P Q (Pair v w) = P v × Q w
IsPairOf P Q _ = ⊥

-- a set of values with P, each once and in order
pub record IsSetOf (P : Value → Type 0) (v : Value) : Type 0 where
  pub is_set : v ≡ set_of (members v)
  pub rising : Rising value_cmp (members v)
  pub each : All P (members v)

-- v is a value of F over f whose spaces are subspaces of F^t.
abbrev pub IsValueOf : Field → ℕ → Formula → Value → Type 0
IsValueOf f t (Const b) v = IsFlagBelow 1 v
IsValueOf f t (Ind u) v = IsSpaceOf f t v
IsValueOf f t (Member x a) v = IsFlagBelow 3 v
IsValueOf f t (SameElem x y) v = IsFlagBelow 5 v
IsValueOf f t (Sub a b) v = IsFlagBelow 2 v
IsValueOf f t (SameSet a b) v = IsFlagBelow 2 v
IsValueOf f t (Not F) v = IsValueOf f t F v
IsValueOf f t (Bin o F G) v = IsPairOf (IsValueOf f t F) (IsValueOf f t G) v
IsValueOf f t (ExSet k F) v = IsSetOf (IsValueOf f t F) v
IsValueOf f t (AllSet k F) v = IsSetOf (IsValueOf f t F) v
IsValueOf f t (ExElem k F) v = IsPairOf (IsValueOf f t F) (IsSetOf (IsValueOf f t F)) v
IsValueOf f t (AllElem k F) v = IsPairOf (IsValueOf f t F) (IsSetOf (IsValueOf f t F)) v
