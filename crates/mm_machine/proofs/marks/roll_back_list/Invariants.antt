use Rattle.std.proofs.Common.{◌≡◌, ◌++◌, List, map, length, take, drop}
use Rattle.mm_ops.specs.OpValue.{OpValue}
use Rattle.mm_machine.specs.Shapes.{sign}
use Rattle.mm_machine.specs.Blocks.{blocks_of, cuts_of}
use Rattle.mm_machine.proofs.marks.roll_back_list.Given as goal

abbrev pub invariant-loop-i : goal.invariant-loop-i
invariant-loop-i l = ((ops : List OpValue) → (cuts_of ops l.list.items ≡ cuts_of ops l.fn.list.items) × (blocks_of ops l.list.items ≡ take l.i (cuts_of ops l.fn.list.items) ++ drop l.i (blocks_of ops l.fn.list.items))) × (length l.list.items ≡ length l.fn.list.items) × (map sign l.list.items ≡ map sign l.fn.list.items)
