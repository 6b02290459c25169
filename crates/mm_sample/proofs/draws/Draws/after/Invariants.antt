use Rattle.std.proofs.Common.{◌≡◌}
use Rattle.mm_sample.specs.Draws.{after}
use Rattle.mm_sample.proofs.draws.Draws.after.Given as goal

abbrev pub invariant-loop : goal.invariant-loop
invariant-loop l = l.later.x ≡ after l.counter l.fn.self.x
