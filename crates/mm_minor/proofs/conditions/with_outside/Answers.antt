use Rattle.std.proofs.Common.{sym, ap₂, ◌∙◌}
use Rattle.mm_formula.specs.Syntax.{syntax_of}
use Rattle.mm_formula.specs.Syntax.Syntax.{Member, Not, Bin}
use Rattle.mm_formula.specs.declared.formula.Connective.TheVariants.{And}
use Rattle.mm_minor.proofs.BuildLemmas.{outside_more}
use Rattle.mm_minor.proofs.conditions.with_outside.Goals as goal

pub loop-i-preserved : goal.loop-i-preserved
loop-i-preserved c =
    c.in_ok-joined.ensures
    ∙ ap₂ (λ F G. Bin And F G) c.loop-i.invariant
    (c.in_ok-condition.ensures ∙ ap₂ (λ x y. Not (Member x y)) c.element.ensures c.contracted.ensures)
    ∙ sym (outside_more (syntax_of c.args.formula) c.loop-i.i)
