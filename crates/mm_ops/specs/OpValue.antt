-- An operator as contracts see it: its field and the mathematical operator.
use Rattle.std.specs.Prelude.{ℕ, List}
use Rattle.mm_field.specs.declared.Field.{Field}
use Rattle.mm_logic.specs.Operator.{Op, row_length}
use Rattle.mm_space.specs.JoinForms.{FormValue}

pub record OpValue : Type 0 where
  pub f : Field
  pub op : Op

-- the operator of these numbers and matrices, valid or not
abbrev pub operator : (t1 t2 t3 c : ℕ) → (g1 g2 g3 : List (List ℕ)) → Op
operator t1 t2 t3 c g1 g2 g3 = record { t1 = t1; t2 = t2; t3 = t3; c = c; g1 = g1; g2 = g2; g3 = g3 }

-- the field and the matrices of an operator
abbrev pub form_of : OpValue → FormValue
form_of v = record { f = v.f; r = row_length v.op; g1 = v.op.g1; g2 = v.op.g2; g3 = v.op.g3 }
