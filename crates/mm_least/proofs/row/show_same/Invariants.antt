use Rattle.std.proofs.Common.{◌≡◌, take, length}
use Rattle.mm_least.specs.Rows.{shown}
use Rattle.mm_least.proofs.row.show_same.Given as goal

abbrev pub invariant-loop-k : goal.invariant-loop-k
invariant-loop-k l = (shown (take l.k l.rows) ≡ shown (take l.k l.others)) × (length l.rows ≡ length l.others)
