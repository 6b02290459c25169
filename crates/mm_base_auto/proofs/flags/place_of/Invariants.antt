use Rattle.std.proofs.Common.{◌≡◌, take, nat_eq, false}
use Rattle.std.specs.List.{list_any}
use Rattle.mm_base_auto.proofs.flags.place_of.Given as goal

abbrev pub invariant-loop-i : goal.invariant-loop-i
invariant-loop-i l = list_any (nat_eq l.flag) (take l.i l.flags) ≡ false
