use Rattle.std.proofs.Common.{take}
use Rattle.mm_least.specs.KnownRows.{AreRowPlaces}
use Rattle.mm_least.proofs.places.places_by_index.Given as goal

abbrev pub invariant-loop-k : goal.invariant-loop-k
invariant-loop-k l = AreRowPlaces l.fn.ids (take l.k l.fn.rows) l.places.items
