use Rattle.std.proofs.Common.{◌≡◌, ◌+◌, true, false, take, sum_by, sym, ◌∙◌, subst}
use Rattle.mm_logic.specs.Occurrence.{own_cells, distinct, is_among}
use Rattle.mm_reference_meaning.specs.Formulas.{formula_of}
use Rattle.mm_reference.specs.Sizes.{IsCount}
use Rattle.mm_reference.specs.Values.{value_of, seen_of}
use Rattle.mm_reference.proofs.SizeLemmas.{counted_same, counted_new, seen_next}
use Rattle.mm_reference.proofs.sizes.distinct_cells.Goals as goal
use Rattle.mm_reference.proofs.sizes.distinct_cells.Goals.{then-not-is_among, else-not-is_among}

pub loop-i-preserved : goal.loop-i-preserved
loop-i-preserved c =
    let i = c.loop-i.i in
    let values = c.args.values.now in
    let f = own_cells (formula_of c.args.formula.now) in
    let vs = seen_of (take i values) in
    let v = value_of c.index-values-i.result.now in
    let next = seen_next i values c.index-values-i.result c.loop-i-test.true c.index-values-i.is in
    elim c.if-not-is_among.branch [
      | then-not-is_among w ↦
          let r = c.if-not-is_among.sum in
          let other : is_among vs v ≡ false = sym c.is_among.ensures ∙ w.if-not-is_among.true in
          let more : IsCount (sum_by f (distinct vs) + f v) r =
          subst (λ s. IsCount (sum_by f (distinct vs) + f v) s) (sym w.sum-is) (w.add-sum.ensures (sum_by f (distinct vs)) (f v) c.loop-i.invariant w.own_cells.ensures) in
          subst (λ xs. IsCount (sum_by f (distinct xs)) r) (sym next) (counted_new f vs v r other more)
      | else-not-is_among w ↦
          let r = c.if-not-is_among.sum in
          let there : is_among vs v ≡ true = sym c.is_among.ensures ∙ w.if-not-is_among.false in
          let kept : IsCount (sum_by f (distinct vs)) r = subst (λ s. IsCount (sum_by f (distinct vs)) s) (sym w.sum-is) c.loop-i.invariant in
          subst (λ xs. IsCount (sum_by f (distinct xs)) r) (sym next) (counted_same f vs v r there kept)
    ]
