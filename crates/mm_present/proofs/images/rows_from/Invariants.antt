use Rattle.std.proofs.Common.{◌≡◌, take, drop}
use Rattle.mm_present.proofs.images.rows_from.Given as goal

abbrev pub invariant-loop-i : goal.invariant-loop-i
invariant-loop-i l = l.out ≡ record l.fn.rows { rows = take l.i (drop l.start l.fn.rows.rows) }
