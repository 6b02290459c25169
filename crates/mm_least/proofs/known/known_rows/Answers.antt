use Rattle.std.proofs.Common.{ap, ◌∙◌}
use Rattle.mm_least.specs.Rows.{shown}
use Rattle.mm_least.specs.Candidates.{typed_by, pairs_of}
use Rattle.mm_least.specs.Logs.{standing}
use Rattle.mm_least.proofs.KnownLemmas.{rows_known}
use Rattle.mm_least.proofs.known.known_rows.Goals as goal

pub returns-in-Ok-standing : goal.returns-in-Ok-standing
returns-in-Ok-standing c =
    rows_known c.args.transition.now (λ type join. pairs_of join (typed_by type (shown c.args.left.now)) 0 (typed_by type (shown c.args.right.now))) c.in-Ok-with_capacity.log.items c.offer_all.new.log.items c.in-Ok-standing.rows.items
    c.in-Ok-with_capacity.ensures.items (c.in-Ok-standing.ensures ∙ ap standing c.deref-in-Ok-offer_all-2.ensures.value) c.in-Ok-offer_all.ensures.1
