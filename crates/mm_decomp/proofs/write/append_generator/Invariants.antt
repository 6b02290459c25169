use Rattle.std.proofs.Common.{◌≡◌, ◌++◌, ◌-◌, [], get_or, drop, take}
use Rattle.mm_space.specs.VectorText.{joined_text}
use Rattle.mm_decomp.proofs.write.append_generator.Given as goal

abbrev pub invariant-loop-k : goal.invariant-loop-k
invariant-loop-k l = l.text ≡ l.fn.text ++ joined_text (get_or l.vectors 0 []) (take (l.k - 1) (drop 1 l.vectors))
