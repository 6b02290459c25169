use Rattle.std.proofs.Common.{◌≡◌, take}
use Rattle.mm_space.proofs.key.Key.basis.Given as goal

abbrev pub invariant-loop-i : goal.invariant-loop-i
invariant-loop-i l = l.rows ≡ take l.i l.self.rows
