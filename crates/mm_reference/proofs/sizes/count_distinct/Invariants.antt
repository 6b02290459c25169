use Rattle.std.proofs.Common.{take, length}
use Rattle.mm_logic.specs.Occurrence.{distinct}
use Rattle.mm_reference.specs.Sizes.{IsCount}
use Rattle.mm_reference.specs.Values.{seen_of}
use Rattle.mm_reference.proofs.sizes.count_distinct.Given as goal

abbrev pub invariant-loop-i : goal.invariant-loop-i
invariant-loop-i l = IsCount (length (distinct (seen_of (take l.i l.values)))) l.sum
