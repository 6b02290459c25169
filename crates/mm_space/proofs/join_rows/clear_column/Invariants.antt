use Rattle.mm_space.specs.MarkedRows.{marked_rows}
use Rattle.mm_space.proofs.MarkedSteps.{IsClearingMarked}
use Rattle.mm_space.proofs.join_rows.clear_column.Given as goal

abbrev pub invariant-loop-left : goal.invariant-loop-left
invariant-loop-left l = IsClearingMarked l.f 24 l.p l.w l.marks (marked_rows 24 l.marks l.initial.rows) l.initial.left l.left l.rows

abbrev pub decreases-loop-left : goal.decreases-loop-left
decreases-loop-left l = l.left
