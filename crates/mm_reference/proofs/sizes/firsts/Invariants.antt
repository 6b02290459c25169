use Rattle.std.proofs.Common.{◌≡◌, take, map}
use Rattle.mm_logic.specs.Value as value_spec
use Rattle.mm_reference.specs.Values.{seen_of}
use Rattle.mm_reference.proofs.sizes.firsts.Given as goal

abbrev pub invariant-loop-value : goal.invariant-loop-value
invariant-loop-value l = seen_of l.parts.items ≡ map value_spec.first (seen_of (take l.value-index l.values))
