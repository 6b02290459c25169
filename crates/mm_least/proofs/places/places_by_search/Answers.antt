use Rattle.std.proofs.Common.{◌+◌, List, take, sym, subst}
use Rattle.mm_least.specs.declared.row.Row.{Row}
use Rattle.mm_least.specs.KnownRows.{AreRowPlaces}
use Rattle.mm_least.proofs.KnownLemmas.{all_taken, places_next}
use Rattle.mm_least.proofs.places.places_by_search.Goals as goal

pub loop-k-preserved : goal.loop-k-preserved
loop-k-preserved c =
    subst (AreRowPlaces c.args.ids.now (take (c.loop-k.k + 1) c.args.rows.now)) (sym c.in-Ok.ensures.items)
    (places_next c.args.ids.now c.args.rows.now c.loop-k.k c.loop-k-test.true c.in-Some.place c.in-Some.ensures.0 c.in-Some.ensures.1 c.loop-k.places.items c.loop-k.invariant)

pub returns : goal.returns
returns c = subst (λ (rs : List Row). AreRowPlaces c.args.ids.now rs c.loop-k.places.items) (all_taken c.args.rows.now c.loop-k.k c.loop-k-test.false) c.loop-k.invariant
