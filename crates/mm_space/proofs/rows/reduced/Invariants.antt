use Rattle.mm_space.proofs.RowLemmas.{IsUnderway}
use Rattle.mm_space.proofs.rows.reduced.Given as goal

abbrev pub invariant-loop-j : goal.invariant-loop-j
invariant-loop-j l = IsUnderway l.f 24 l.v l.rows l.j l.out
