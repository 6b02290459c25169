use Rattle.std.proofs.Common.{◌≡◌, length, map, take}
use Rattle.mm_present.specs.Comparing.{digit_at}
use Rattle.mm_present.proofs.comparison.in_order.Given as goal

abbrev pub invariant-loop-i : goal.invariant-loop-i
invariant-loop-i l = l.ordered ≡ record { f = l.rows.f; cols = length l.places; rows = map (λ row. map (digit_at row) l.places) (take l.i l.rows.rows) }
