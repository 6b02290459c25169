use Rattle.std.proofs.Common.{length}
use Rattle.mm_reference.proofs.values.+collected.Given as goal

abbrev pub decreases-collected : goal.decreases-collected
decreases-collected l = length l.values.items
