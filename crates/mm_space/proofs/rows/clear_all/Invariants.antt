use Rattle.mm_space.proofs.RowLemmas.{IsClearing}
use Rattle.mm_space.proofs.rows.clear_all.Given as goal

abbrev pub invariant-loop-i : goal.invariant-loop-i
invariant-loop-i l = IsClearing l.f 24 l.p l.w l.initial.rows l.i l.rows
