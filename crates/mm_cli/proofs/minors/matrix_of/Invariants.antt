use Rattle.std.proofs.Common.{◌≡◌, take}
use Rattle.mm_cli.proofs.minors.matrix_of.Given as goal

abbrev pub invariant-loop-k : goal.invariant-loop-k
invariant-loop-k l = l.rows ≡ record { f = l.matrix.field; cols = l.columns; rows = take l.k l.matrix.rows }
