use Rattle.std.proofs.Common.{map, length}
use Rattle.mm_matrix.proofs.ResidueLemmas.{IsResidueUpTo}
use Rattle.mm_matrix.proofs.RowLemmas.{digits_of}
use Rattle.mm_matrix.proofs.elimination.reduce.Given as goal

abbrev pub invariant-loop-i : goal.invariant-loop-i
invariant-loop-i l = IsResidueUpTo l.f (length l.initial.v) (map digits_of l.rows.items) l.leads.items l.initial.v l.v l.i
