use Rattle.std.proofs.Common.{take}
use Rattle.mm_least.specs.Rows.{shown}
use Rattle.mm_least.specs.Candidates.{typed_by, pairs_of}
use Rattle.mm_least.specs.Logs.{standing, IsLog}
use Rattle.mm_least.specs.KnownRows.{PutsAll}
use Rattle.mm_least.proofs.known.offer_all.Given as goal

abbrev pub invariant-loop-k : goal.invariant-loop-k
invariant-loop-k l =
    IsLog l.fn.transition.ids l.lasts.items l.log.items
    × PutsAll l.fn.transition (λ type join. pairs_of join (typed_by type (shown (take l.k l.fn.left))) 0 (typed_by type (shown l.fn.right))) (standing l.fn.log.items) (standing l.log.items)
