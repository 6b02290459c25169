use Rattle.std.proofs.Common.{◌≡◌, map, take}
use Rattle.mm_least.proofs.transition.ids_of.Given as goal

abbrev pub invariant-loop-k : goal.invariant-loop-k
invariant-loop-k l = l.ids.items ≡ map (λ r. r.id) (take l.k l.fn.rows)
