use Rattle.std.proofs.Common.{◌≡◌, take, flat_map}
use Rattle.mm_logic.specs.Occurrence.{elem_parts}
use Rattle.mm_reference.specs.Values.{seen_of}
use Rattle.mm_reference.proofs.sizes.elem_parts.Given as goal

abbrev pub invariant-loop-value : goal.invariant-loop-value
invariant-loop-value l = seen_of l.parts.items ≡ flat_map elem_parts (seen_of (take l.value-index l.values))
