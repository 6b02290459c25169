use Rattle.std.proofs.Common.{◌≡◌, ◌+◌, ◌*◌, ◌-◌, length, take, drop, false, true}
use Rattle.std.specs.List.{list_any, list_all}
use Rattle.mm_machine.specs.Parts.{views}
use Rattle.mm_machine.specs.Blocks.{blocks}
use Rattle.mm_machine.specs.Shapes.{accepts_by, shapes}
use Rattle.mm_machine.proofs.accepts.+accepts.Given as goal

abbrev pub decreases-accepts_at : goal.decreases-accepts_at
decreases-accepts_at l = 4 * (length l.parts.now.list.items - l.at)

abbrev pub decreases-accepts_members : goal.decreases-accepts_members
decreases-accepts_members l = 4 * (length l.parts.now.list.items - l.at) + 2

abbrev pub decreases-any_accepted : goal.decreases-any_accepted
decreases-any_accepted l = 4 * (length l.parts.now.list.items - l.at) + 1

abbrev pub decreases-all_accepted : goal.decreases-all_accepted
decreases-all_accepted l = 4 * (length l.parts.now.list.items - l.at) + 1

abbrev pub invariant-any_accepted-loop-i : goal.invariant-any_accepted-loop-i
invariant-any_accepted-loop-i l = list_any (accepts_by (drop l.at (shapes l.parts.list.items)) (views (drop l.at (blocks l.parts)))) (take l.i l.ids) ≡ false

abbrev pub invariant-all_accepted-loop-i : goal.invariant-all_accepted-loop-i
invariant-all_accepted-loop-i l = list_all (accepts_by (drop l.at (shapes l.parts.list.items)) (views (drop l.at (blocks l.parts)))) (take l.i l.ids) ≡ true
