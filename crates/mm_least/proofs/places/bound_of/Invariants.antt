use Rattle.std.proofs.Common.{◌<◌, take}
use Rattle.mm_states.specs.Lists.{AllFit}
use Rattle.mm_least.proofs.places.bound_of.Given as goal

abbrev pub invariant-loop-k : goal.invariant-loop-k
invariant-loop-k l = AllFit (λ id. id < l.bound) (take l.k l.fn.ids)
