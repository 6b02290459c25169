use Rattle.std.proofs.Common.{length}
use Rattle.mm_reference_meaning.proofs.combinations.+coordinates.Given as goal

abbrev pub decreases-coordinates : goal.decreases-coordinates
decreases-coordinates l = length l.rows.now
