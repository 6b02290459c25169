use Rattle.std.proofs.Common.{sym, ap₂, ◌∙◌}
use Rattle.mm_formula.specs.Syntax.{syntax_of}
use Rattle.mm_formula.specs.Syntax.Syntax.{SameElem, Not, Bin}
use Rattle.mm_formula.specs.declared.formula.Connective.TheVariants.{And}
use Rattle.mm_minor.proofs.BuildLemmas.{different_until_more}
use Rattle.mm_minor.proofs.conditions.with_different_from.Goals as goal

pub loop-j-preserved : goal.loop-j-preserved
loop-j-preserved c =
    c.in_ok-joined.ensures
    ∙ ap₂ (λ F G. Bin And F G) c.loop-j.invariant
    (c.in_ok-condition.ensures ∙ ap₂ (λ x y. Not (SameElem x y)) c.element.ensures c.element-in-loop-j.ensures)
    ∙ sym (different_until_more (syntax_of c.args.formula) c.args.i c.loop-j.j c.loop-j.auto.j)
