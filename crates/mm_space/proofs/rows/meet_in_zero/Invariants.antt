use Rattle.mm_space.proofs.SumSteps.{IsApart}
use Rattle.mm_space.proofs.rows.meet_in_zero.Given as goal

abbrev pub invariant-loop-i : goal.invariant-loop-i
invariant-loop-i l = IsApart l.f 24 l.r l.rows l.more l.i l.all
