use Rattle.std.proofs.Common.{◌≡◌, drop}
use Rattle.mm_field.specs.Vectors.{combination}
use Rattle.mm_matrix.proofs.products.combination.Given as goal

abbrev pub invariant-loop-i : goal.invariant-loop-i
invariant-loop-i l = l.sum.items ≡ combination l.m.f l.m.cols (drop l.i l.coefficients) (drop l.i l.m.rows)
