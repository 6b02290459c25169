use Rattle.std.proofs.Common.{◌≡◌, ◌++◌, drop}
use Rattle.mm_least.specs.Logs.{standing}
use Rattle.mm_least.proofs.log.standing.Given as goal

abbrev pub invariant-loop-k : goal.invariant-loop-k
invariant-loop-k l = l.rows.items ++ standing (drop l.k l.fn.log) ≡ standing l.fn.log
