use Rattle.std.proofs.Common.{◌≡◌, drop}
use Rattle.mm_present.specs.Comparing.{first_missing}
use Rattle.mm_present.proofs.comparison.first_missing.Given as goal

abbrev pub invariant-loop-k : goal.invariant-loop-k
invariant-loop-k l = first_missing l.names l.others.keys ≡ first_missing (drop l.k l.names) l.others.keys
