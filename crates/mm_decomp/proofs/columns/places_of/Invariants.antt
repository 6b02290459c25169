use Rattle.std.proofs.Common.{◌≡◌, map, take}
use Rattle.mm_decomp.specs.Shapes.{leaf_names}
use Rattle.mm_decomp.specs.Spaces.{place_in}
use Rattle.mm_decomp.proofs.columns.places_of.Given as goal

abbrev pub invariant-loop-i : goal.invariant-loop-i
invariant-loop-i l = l.places.items ≡ map (place_in l.set.keys) (leaf_names (take l.i l.steps))
