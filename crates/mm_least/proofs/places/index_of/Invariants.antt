use Rattle.std.proofs.Common.{◌≡◌, length}
use Rattle.mm_least.specs.KnownRows.{IsIndex}
use Rattle.mm_least.proofs.places.index_of.Given as goal

abbrev pub invariant-loop-k : goal.invariant-loop-k
invariant-loop-k l = (length l.index.items ≡ l.fn.bound) × IsIndex l.fn.ids l.index.items
