use Rattle.std.proofs.Common.{rules, ◌≡◌, pos, ◌+ℤ◌, cond, SFits, w64, get_or, take, sym, ap, ◌∙◌, arith}
use Rattle.std.proofs.lemmas.Int.{ints}
use Rattle.mm_logic.specs.Least as least_spec
use Rattle.mm_reference_meaning.proofs.WeightLemmas.{weight_next, add_nothing}
use Rattle.mm_reference_meaning.proofs.first_sets.weight.Goals as goal
use Rattle.mm_reference_meaning.proofs.first_sets.weight.Goals.{then-set-i, else-set-i}

pub loop-i-preserved : goal.loop-i-preserved
loop-i-preserved c =
    let i = c.loop-i.i in
    let ws = c.args.weights.now in
    let X = c.args.set.now in
    let next = weight_next i ws X c.loop-i-test.true c.requires in
    elim c.if-set-i.branch [
      | then-set-i w ↦
          let fits : SFits w64 (get_or ws i (pos 0)) = search rules in
          let is : c.if-set-i.sum ≡ (c.loop-i.sum +ℤ get_or ws i (pos 0)) = omega (arith, ints, w.sum-is, w.from-sum.ensures, fits, c.loop-i.invariant) in
          let same = is ∙ ap (λ s. s +ℤ get_or ws i (pos 0)) (sym c.loop-i.sum-is ∙ c.loop-i.invariant.0)
          ∙ sym (next ∙ ap (λ b. least_spec.weight (take i ws) (take i X) +ℤ cond b (get_or ws i (pos 0)) (pos 0)) w.if-set-i.true) in
          (c.if-set-i.sum-is ∙ same, omega (arith, ints, is, fits, c.loop-i.invariant), omega (arith, ints, is, fits, c.loop-i.invariant))
      | else-set-i w ↦
          let same = c.loop-i.invariant.0
          ∙ sym (next ∙ ap (λ b. least_spec.weight (take i ws) (take i X) +ℤ cond b (get_or ws i (pos 0)) (pos 0)) w.if-set-i.false ∙ add_nothing (least_spec.weight (take i ws) (take i X))) in
          (w.sum-is ∙ same, omega (arith, ints, w.sum-is, c.loop-i.invariant), omega (arith, ints, w.sum-is, c.loop-i.invariant))
    ]
