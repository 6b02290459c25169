use Rattle.std.proofs.Common.{◌≡◌, [], map, take}
use Rattle.mm_machine.specs.Blocks.{blocks_of, cuts_of}
use Rattle.mm_machine.specs.Empties.{emptied}
use Rattle.mm_machine.specs.Shapes.{sign}
use Rattle.mm_machine.proofs.fresh.fresh_list.Given as goal

abbrev pub invariant-loop-i : goal.invariant-loop-i
invariant-loop-i l =
    (blocks_of [] l.fresh.items ≡ map emptied (blocks_of [] (take l.i l.list)))
    × (cuts_of [] l.fresh.items ≡ map emptied (blocks_of [] (take l.i l.list)))
    × (map sign l.fresh.items ≡ map sign (take l.i l.list))
