use Rattle.std.proofs.Common.{◌≡◌, ◌++◌, ◌∷◌, [], ap, sym, ◌∙◌, arith}
use Rattle.std.specs.List.{range_with_len}
use Rattle.mm_linear.proofs.BasisLemmas.{range_one_more}
use Rattle.mm_decomp.proofs.operator.places.Goals as goal

pub loop-i-preserved : goal.loop-i-preserved
loop-i-preserved c =
    c.in_ok-push.ensures.items ∙ ap (λ xs. xs ++ c.loop-i.i ∷ []) c.loop-i.invariant ∙ sym (range_one_more c.loop-i.i)

pub returns : goal.returns
returns c = c.loop-i.invariant ∙ ap (range_with_len 0) (let e : c.loop-i.i ≡ c.args.n = omega arith in e)
