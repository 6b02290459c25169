use Rattle.std.proofs.Common.{◌≡◌, take, flat_map}
use Rattle.mm_logic.specs.Value as value_spec
use Rattle.mm_reference.specs.Values.{seen_of}
use Rattle.mm_reference.proofs.sizes.members.Given as goal

abbrev pub invariant-loop-value : goal.invariant-loop-value
invariant-loop-value l = seen_of l.parts.items ≡ flat_map value_spec.members (seen_of (take l.value-index l.values))
