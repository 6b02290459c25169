-- How an operator is kept.
use Rattle.std.specs.Prelude.{ℕ, ◌≡◌}
use Rattle.mm_logic.specs.Operator.{Op, IsValidOp, row_length}
use Rattle.mm_ops.specs.OpValue.{OpValue, form_of}
use Rattle.mm_ops.specs.declared.op.Op.TheInside.{Inside}

abbrev pub op_of : Inside → Op
op_of s = record { t1 = s.t1; t2 = s.t2; t3 = s.t3; c = s.c; g1 = s.form.g1; g2 = s.form.g2; g3 = s.form.g3 }

abbrev pub value_of : Inside → OpValue
value_of s = record { f = s.form.f; op = op_of s }

abbrev pub inside_of : OpValue → Inside
inside_of v = record { t1 = v.op.t1; t2 = v.op.t2; t3 = v.op.t3; c = v.op.c; form = form_of v }

-- the same with rows of another length
abbrev pub with_length : Inside → ℕ → Inside
with_length s r = record {
  t1 = s.t1;
  t2 = s.t2;
  t3 = s.t3;
  c = s.c;
  form = record { f = s.form.f; r = r; g1 = s.form.g1; g2 = s.form.g2; g3 = s.form.g3 };
}

-- every operator is valid
pub record IsKept (s : Inside) : Type 0 where
  pub valid : IsValidOp s.form.f (op_of s)
  pub length : row_length (op_of s) ≡ s.form.r
