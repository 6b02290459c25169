use Rattle.std.proofs.Common.{ℕ, ◌<◌, get_or}
use Rattle.mm_matrix.proofs.elimination.place_of.Given as goal

abbrev pub invariant-loop-i : goal.invariant-loop-i
invariant-loop-i l = (k : ℕ) → k < l.i → get_or l.leads k 0 < l.lead
