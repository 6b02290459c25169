use Rattle.std.proofs.Common.{length}
use Rattle.mm_reference_meaning.proofs.combinations.+independent.Given as goal

abbrev pub decreases-independent : goal.decreases-independent
decreases-independent l = length l.rows.now
