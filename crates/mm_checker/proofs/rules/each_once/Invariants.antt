use Rattle.std.proofs.Common.{◌≡◌, take}
use Rattle.std.specs.Ordering.{nat_cmp}
use Rattle.mm_logic.specs.Order.{normal}
use Rattle.mm_checker.proofs.rules.each_once.Given as goal

abbrev pub invariant-loop-i : goal.invariant-loop-i
invariant-loop-i l = l.set ≡ normal nat_cmp (take l.i l.numbers)
