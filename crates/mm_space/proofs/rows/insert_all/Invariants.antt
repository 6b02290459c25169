use Rattle.mm_space.proofs.SumSteps.{IsAdding}
use Rattle.mm_space.proofs.rows.insert_all.Given as goal

abbrev pub invariant-loop-i : goal.invariant-loop-i
invariant-loop-i l = IsAdding l.f 24 l.r l.initial.rows l.more l.i l.rows
