use Rattle.std.proofs.Common.{List, ℕ, sym, subst}
use Rattle.std.specs.List.{All}
use Rattle.mm_field.specs.Vectors.{AreDigits}
use Rattle.mm_ops.proofs.ValidOps.{unit_digits}
use Rattle.mm_ops.proofs.op.Op.new.Goals as goal

pub with_boundary-requires-clause-third : goal.with_boundary-requires-clause-third
with_boundary-requires-clause-third c =
    subst (λ (g : List (List ℕ)). All (λ v. AreDigits c.args.f v) g) (sym c.first_units.ensures) (unit_digits c.args.f c.args.t3 c.args.c)
