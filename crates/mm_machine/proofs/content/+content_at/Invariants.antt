use Rattle.std.proofs.Common.{◌-◌, length}
use Rattle.mm_machine.proofs.content.+content_at.Given as goal

abbrev pub decreases-content_at : goal.decreases-content_at
decreases-content_at l = length l.parts.now.list.items - l.at
