use Rattle.std.proofs.Common.{ℕ, ◌≡◌, ◌<◌, [], get_or}
use Rattle.mm_space.proofs.generator.GenPartialEq.eq.Given as goal

abbrev pub invariant-loop-k : goal.invariant-loop-k
invariant-loop-k l = (k : ℕ) → k < l.k → get_or l.self-inside.kept k [] ≡ get_or l.other-inside.kept k []
