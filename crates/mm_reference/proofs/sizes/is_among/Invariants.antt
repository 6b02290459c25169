use Rattle.std.proofs.Common.{◌≡◌, false, take}
use Rattle.mm_logic.specs.Occurrence.{is_among}
use Rattle.mm_reference.specs.Values.{value_of, seen_of}
use Rattle.mm_reference.proofs.sizes.is_among.Given as goal

abbrev pub invariant-loop-other : goal.invariant-loop-other
invariant-loop-other l = is_among (seen_of (take l.other-index l.values)) (value_of l.value) ≡ false
