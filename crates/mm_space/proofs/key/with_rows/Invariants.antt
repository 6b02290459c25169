use Rattle.mm_space.specs.MarkedRows.{marked_rows}
use Rattle.mm_space.proofs.PackSteps.{IsPacking}
use Rattle.mm_space.proofs.key.with_rows.Given as goal

abbrev pub invariant-loop-j : goal.invariant-loop-j
invariant-loop-j l = IsPacking l.t (marked_rows 24 l.marks l.rows) l.j l.packed l.rank
