use Rattle.std.proofs.Common.{◌≡◌, ◌+◌, ◌-◌, [], get_or, drop, take}
use Rattle.mm_space.specs.VectorText.{joined_text}
use Rattle.mm_decomp.proofs.operator.rows_text.Given as goal

abbrev pub invariant-loop-i : goal.invariant-loop-i
invariant-loop-i l = l.text.items ≡ joined_text (get_or l.m.rows l.from []) (take (l.i - 1) (drop (l.from + 1) l.m.rows))
