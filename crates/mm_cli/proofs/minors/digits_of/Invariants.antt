use Rattle.std.proofs.Common.{◌≡◌, take}
use Rattle.mm_cli.proofs.minors.digits_of.Given as goal

abbrev pub invariant-loop-k : goal.invariant-loop-k
invariant-loop-k l = l.digits.items ≡ take l.k l.v
