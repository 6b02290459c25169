-- Why numbers and matrices are no valid operator.
use Rattle.std.specs.Prelude.{ℕ, ◌≡◌, Ok, Err, ◌==◌, nat_le, Bool, not, ◌&&◌, List, length, Option, Some, None, if◌then◌else◌}
use Rattle.std.specs.List.{list_all}
use Rattle.std.specs.declared.result.Result.{Result}
use Rattle.mm_field.specs.declared.Field.{Field}
use Rattle.mm_linear.specs.Decide.{is_independent}
use Rattle.mm_logic.specs.Operator.{Op, row_length}
use Rattle.mm_ops.specs.OpValue.{OpValue}
use Rattle.mm_ops.specs.declared.op.OpFault.{OpFault}
use Rattle.mm_ops.specs.declared.op.OpFault.TheVariants.{Bound, Shape, Dependent}

-- The boundaries are at most 6, and c is at most 12.
abbrev pub is_within_bounds : Op → Bool
is_within_bounds op = nat_le op.t1 6 && nat_le op.t2 6 && nat_le op.t3 6 && nat_le op.c 12

-- A matrix has so many rows of so many digits.
abbrev pub has_shape : ℕ → ℕ → List (List ℕ) → Bool
has_shape t r g = length g == t && list_all (λ v. length v == r) g

abbrev pub has_shapes : Op → Bool
has_shapes op = has_shape op.t1 (row_length op) op.g1 && has_shape op.t2 (row_length op) op.g2 && has_shape op.t3 (row_length op) op.g3

-- The first of three matrices with rows of r digits, counted from 1, whose rows are dependent.
abbrev pub first_dependent : Field → ℕ → (g1 g2 g3 : List (List ℕ)) → Option ℕ
first_dependent f r g1 g2 g3 =
    if not (is_independent f r g1) then Some 1 else (
    if not (is_independent f r g2) then Some 2 else (
    if not (is_independent f r g3) then Some 3 else None))

abbrev pub dependence : Option ℕ → Option OpFault
dependence None = None
dependence (Some k) = Some (Dependent k)

-- The first ground for which these are no valid operator over f: a number above its bound, a matrix of the wrong shape, or the first
-- matrix with dependent rows; nothing for a valid operator.
unfoldable pub fault_of : Field → Op → Option OpFault
fault_of f op =
    if not (is_within_bounds op) then Some Bound else (
    if not (has_shapes op) then Some Shape else dependence (first_dependent f (row_length op) op.g1 op.g2 op.g3))

-- An operator is made exactly where it has no fault, and else the first fault is answered.
abbrev pub Makes : Field → Op → Result OpValue OpFault → Type 0
Makes f op (Ok made) = (fault_of f op ≡ None) × (made ≡ record { f = f; op = op })
Makes f op (Err fault) = fault_of f op ≡ Some fault
