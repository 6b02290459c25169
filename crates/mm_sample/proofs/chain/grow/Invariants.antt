use Rattle.std.proofs.Common.{◌≡◌, ◌+◌, ◌*◌, [], ◌∷◌}
use Rattle.mm_field.specs.Digits.{order}
use Rattle.mm_sample.specs.Draws.{after}
use Rattle.mm_sample.specs.SampleTree.{chain}
use Rattle.mm_sample.proofs.chain.grow.Given as goal

abbrev pub invariant-loop-k : goal.invariant-loop-k
invariant-loop-k l =
    (l.builder ≡ record { f = l.fn.f; trees = chain (order l.fn.f) l.fn.seed.x (after (3 * l.fn.n) l.fn.seed.x) l.k ∷ [] })
    × (l.leaves.x ≡ after (3 * (l.k + 1)) l.fn.seed.x)
    × (l.joins.x ≡ after l.k (after (3 * l.fn.n) l.fn.seed.x))
