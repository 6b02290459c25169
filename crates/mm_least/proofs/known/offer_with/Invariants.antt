use Rattle.std.proofs.Common.{take}
use Rattle.mm_least.specs.Rows.{shown}
use Rattle.mm_least.specs.Candidates.{typed_by, pairs_with}
use Rattle.mm_least.specs.Logs.{standing, IsLog}
use Rattle.mm_least.specs.KnownRows.{PutsAll}
use Rattle.mm_least.proofs.known.offer_with.Given as goal

abbrev pub invariant-loop-k : goal.invariant-loop-k
invariant-loop-k l =
    IsLog l.fn.transition.ids l.lasts.items l.log.items
    × PutsAll l.fn.transition (λ type join. pairs_with join (type l.fn.left.id, l.fn.left.weight) l.fn.place (typed_by type (shown (take l.k l.fn.right))) 0) (standing l.fn.log.items) (standing l.log.items)
