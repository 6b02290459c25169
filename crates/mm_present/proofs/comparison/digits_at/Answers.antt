use Rattle.std.proofs.Common.{◌≡◌, ℕ, get_or, map, Option, None, sym, ap, ◌∙◌, arith}
use Rattle.mm_present.specs.Comparing.{digit_at}
use Rattle.std.proofs.lemmas.List.{take_all, get_or_default}
use Rattle.mm_present.proofs.CompareLemmas.{next_place}
use Rattle.mm_present.proofs.comparison.digits_at.Goals as goal
use Rattle.mm_present.proofs.comparison.digits_at.Goals.{in-Some, in-None}

pub loop-k-preserved : goal.loop-k-preserved
loop-k-preserved c =
    let row = c.args.row.now in
    let places = c.args.places.now in
    let k = c.loop-k.k in
    let here : Option ℕ = get_or places k None in
    let digit : c.match-places-k.digit ≡ digit_at row here = elim c.match-places-k.branch [
      | in-Some w ↦ w.digit-is ∙ ap (digit_at row) (sym w.in-Some.is)
      | in-None w ↦ w.digit-is ∙ ap (digit_at row) (sym w.in-None.is)
    ] in
    c.in_ok-push.ensures.items
    ∙ next_place (digit_at row) places k here c.match-places-k.digit c.loop-k.digits.items (omega arith)
    (get_or_default places k None here (omega arith)) digit c.loop-k.invariant

pub returns : goal.returns
returns c = c.loop-k.invariant ∙ ap (map (digit_at c.args.row.now)) (take_all c.loop-k.k c.args.places.now (omega arith))
