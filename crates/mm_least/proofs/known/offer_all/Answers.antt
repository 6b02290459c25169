use Rattle.std.proofs.Common.{◌≤◌, nat_abs, List, subst}
use Rattle.mm_least.specs.declared.row.Row.{Row}
use Rattle.mm_least.specs.Rows.{shown}
use Rattle.mm_least.specs.Candidates.{typed_by, pairs_of}
use Rattle.mm_least.specs.Logs.{standing}
use Rattle.mm_least.specs.KnownRows.{PutsAll}
use Rattle.mm_least.specs.Passes.{most_sum}
use Rattle.mm_least.proofs.WalkLemmas.{fit_at}
use Rattle.mm_least.proofs.KnownLemmas.{no_row, all_taken, row_named, of_next_puts}
use Rattle.mm_least.proofs.known.offer_all.Goals as goal

pub offer_with-requires-clause-left_light : goal.offer_with-requires-clause-left_light
offer_with-requires-clause-left_light c = fit_at (λ q. nat_abs q.1 ≤ most_sum) c.args.left.now c.loop-k.k no_row c.requires.left_light c.loop-k-test.true

pub offer_with-requires-clause-here : goal.offer_with-requires-clause-here
offer_with-requires-clause-here c = row_named c.args.transition.now.left c.args.left.now c.args.places.now c.requires.places c.loop-k.k c.loop-k-test.true

pub loop-k-preserved : goal.loop-k-preserved
loop-k-preserved c =
    let T = c.args.transition.now in
    let left = c.args.left.now in
    let right = c.args.right.now in
    let k = c.loop-k.k in
    let both = c.in-Ok.ensures in
    (both.0, of_next_puts T left right k no_row c.loop-k-test.true (standing c.args.log.now.items) (standing c.loop-k.log.items) (standing c.offer_with.new.log.items) c.loop-k.invariant.1 both.1)

pub returns : goal.returns
returns c = (
  c.loop-k.invariant.0,
  subst (λ (rs : List Row). PutsAll c.args.transition.now (λ type join. pairs_of join (typed_by type (shown rs)) 0 (typed_by type (shown c.args.right.now))) (standing c.args.log.now.items) (standing c.loop-k.log.items))
      (all_taken c.args.left.now c.loop-k.k c.loop-k-test.false) c.loop-k.invariant.1,
)
