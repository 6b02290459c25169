use Rattle.std.proofs.Common.{◌-◌, length}
use Rattle.mm_machine.proofs.content.+count_at.Given as goal

abbrev pub decreases-count_at : goal.decreases-count_at
decreases-count_at l = length l.parts.now.list.items - l.at
