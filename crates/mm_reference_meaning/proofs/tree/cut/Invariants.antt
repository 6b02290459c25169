use Rattle.std.proofs.Common.{◌≡◌, map, take}
use Rattle.mm_reference_meaning.specs.Rows.{rows_of}
use Rattle.mm_reference_meaning.proofs.tree.cut.Given as goal

abbrev pub invariant-loop-row : goal.invariant-loop-row
invariant-loop-row l = rows_of l.short.items ≡ map (take l.n) (rows_of (take l.row-index l.rows))
