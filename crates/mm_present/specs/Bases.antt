-- What the digits of vectors in a join are found by: the rows of G3 beside the negative unit matrix, reduced, and its free columns.
use Rattle.std.specs.Prelude.{ℕ, ◌≡◌, ◌+◌, List, [], ◌∷◌, ◌++◌, length, map}
use Rattle.std.specs.List.{range_with_len}
use Rattle.mm_field.specs.declared.Field.{Field}
use Rattle.mm_field.specs.Digits.{negative}
use Rattle.mm_field.specs.Vectors.{multiple}
use Rattle.mm_linear.specs.Coordinates.{unit, free_columns}
use Rattle.mm_linear.specs.ReducedEchelon.{reduced_basis}
use Rattle.mm_logic.specs.Operator.{row_length}
use Rattle.mm_ops.specs.OpValue.{OpValue}
use Rattle.mm_present.specs.declared.coordinates.Basis.{Basis}

-- two matrices side by side
abbrev pub beside : List (List ℕ) → List (List ℕ) → List (List ℕ)
beside (u ∷ us) (v ∷ vs) = (u ++ v) ∷ beside us vs
beside _ _ = []

-- the first n rows of the negative unit matrix of t columns
abbrev pub negative_units : Field → ℕ → ℕ → List (List ℕ)
negative_units f t n = map (λ k. multiple f (negative f 1) (unit t k)) (range_with_len 0 n)

-- the rows of g beside the negative unit matrix: a combination of these rows shows the negatives of its coefficients at its end
abbrev pub augmented : Field → List (List ℕ) → List (List ℕ)
augmented f g = beside g (negative_units f (length g) (length g))

-- the reduced rows of G3 beside the negative unit matrix, and the free columns of G3
pub record IsBasisOf (op : OpValue) (b : Basis) : Type 0 where
  pub reduced : b.reduced ≡ record {
    f = op.f;
    cols = row_length op.op + length op.op.g3;
    rows = reduced_basis op.f (row_length op.op + length op.op.g3) (augmented op.f op.op.g3);
  }
  pub free : b.free.items ≡ free_columns op.f (row_length op.op) op.op.g3
