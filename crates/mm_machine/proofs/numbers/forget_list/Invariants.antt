use Rattle.std.proofs.Common.{◌≡◌, map, length, take}
use Rattle.mm_machine.specs.Operators.{node_of, AreForgotten}
use Rattle.mm_machine.proofs.numbers.forget_list.Given as goal

abbrev pub invariant-loop-i : goal.invariant-loop-i
invariant-loop-i l = (map node_of l.list.items ≡ map node_of l.fn.list.items) × AreForgotten (take l.i l.list.items) × (length l.list.items ≡ length l.fn.list.items)
