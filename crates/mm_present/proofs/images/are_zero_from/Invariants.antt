use Rattle.std.proofs.Common.{◌≡◌, drop}
use Rattle.mm_present.specs.Images.{are_zero}
use Rattle.mm_present.proofs.images.are_zero_from.Given as goal

abbrev pub invariant-loop-i : goal.invariant-loop-i
invariant-loop-i l = are_zero (drop l.start l.rows.rows) ≡ are_zero (drop l.i l.rows.rows)
