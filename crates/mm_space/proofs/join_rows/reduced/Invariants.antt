use Rattle.mm_space.proofs.MarkedSteps.{IsReducing}
use Rattle.mm_space.proofs.join_rows.reduced.Given as goal

abbrev pub invariant-loop-left : goal.invariant-loop-left
invariant-loop-left l = IsReducing l.f 24 l.v l.marks l.rows l.initial.left l.left l.out

abbrev pub decreases-loop-left : goal.decreases-loop-left
decreases-loop-left l = l.left
