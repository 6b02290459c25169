use Rattle.std.proofs.Common.{[], ◌∷◌, ◌++◌, sym, ap₂, ◌∙◌, arith}
use Rattle.std.proofs.lemmas.List.{take_more, take_all}
use Rattle.mm_cli.proofs.minors.digits_of.Goals as goal

pub loop-k-preserved : goal.loop-k-preserved
loop-k-preserved c =
    c.in_ok-push.ensures.items
    ∙ ap₂ (λ ds d. ds ++ d ∷ []) c.loop-k.invariant c.at.ensures
    ∙ sym (take_more c.args.v.now c.loop-k.k 0 (omega (arith, c.len-k-end.ensures)))

pub returns : goal.returns
returns c = c.loop-k.invariant ∙ take_all c.loop-k.k c.args.v.now (omega (arith, c.len-k-end.ensures))
