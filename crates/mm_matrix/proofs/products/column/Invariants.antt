use Rattle.std.proofs.Common.{◌≡◌, take}
use Rattle.mm_matrix.specs.Columns.{column}
use Rattle.mm_matrix.proofs.products.column.Given as goal

abbrev pub invariant-loop-i : goal.invariant-loop-i
invariant-loop-i l = l.digits.items ≡ column (take l.i l.m.rows) l.j
