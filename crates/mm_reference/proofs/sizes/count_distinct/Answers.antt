use Rattle.std.proofs.Common.{◌≡◌, ◌+◌, true, false, take, length, refl, sym, ◌∙◌, subst}
use Rattle.mm_logic.specs.Occurrence.{distinct, is_among}
use Rattle.mm_reference.specs.Sizes.{IsCount}
use Rattle.mm_reference.specs.Values.{value_of, seen_of}
use Rattle.mm_reference.proofs.SizeLemmas.{as_many_same, one_more_new, seen_next}
use Rattle.mm_reference.proofs.sizes.count_distinct.Goals as goal
use Rattle.mm_reference.proofs.sizes.count_distinct.Goals.{then-not-is_among, else-not-is_among}

pub loop-i-preserved : goal.loop-i-preserved
loop-i-preserved c =
    let i = c.loop-i.i in
    let values = c.args.values.now in
    let vs = seen_of (take i values) in
    let v = value_of c.index-values-i.result.now in
    let next = seen_next i values c.index-values-i.result c.loop-i-test.true c.index-values-i.is in
    elim c.if-not-is_among.branch [
      | then-not-is_among w ↦
          let r = c.if-not-is_among.sum in
          let other : is_among vs v ≡ false = sym c.is_among.ensures ∙ w.if-not-is_among.true in
          let more : IsCount (length (distinct vs) + 1) r =
          subst (λ s. IsCount (length (distinct vs) + 1) s) (sym w.sum-is) (w.add-sum.ensures (length (distinct vs)) 1 c.loop-i.invariant refl) in
          subst (λ xs. IsCount (length (distinct xs)) r) (sym next) (one_more_new vs v r other more)
      | else-not-is_among w ↦
          let r = c.if-not-is_among.sum in
          let there : is_among vs v ≡ true = sym c.is_among.ensures ∙ w.if-not-is_among.false in
          let kept : IsCount (length (distinct vs)) r = subst (λ s. IsCount (length (distinct vs)) s) (sym w.sum-is) c.loop-i.invariant in
          subst (λ xs. IsCount (length (distinct xs)) r) (sym next) (as_many_same vs v r there kept)
    ]
