use Rattle.std.proofs.Common.{length}
use Rattle.mm_reference_meaning.proofs.tree.+combination.Given as goal

abbrev pub decreases-combination : goal.decreases-combination
decreases-combination l = length l.rows.now
