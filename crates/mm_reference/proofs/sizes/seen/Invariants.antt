use Rattle.std.proofs.Common.{◌≡◌, take}
use Rattle.mm_reference.specs.Values.{seen_of, values_of}
use Rattle.mm_reference.proofs.sizes.seen.Given as goal

abbrev pub invariant-loop-value : goal.invariant-loop-value
invariant-loop-value l = seen_of l.all.items ≡ values_of (take l.value-index l.values)
