use Rattle.std.proofs.Common.{◌≡◌, take}
use Rattle.mm_decomp.proofs.columns.set_of.Given as goal

abbrev pub invariant-loop-k : goal.invariant-loop-k
invariant-loop-k l = l.set.keys ≡ take l.k l.names
