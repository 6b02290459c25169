use Rattle.std.proofs.Common.{sym, ap₂, ◌∙◌}
use Rattle.mm_formula.specs.Syntax.{syntax_of}
use Rattle.mm_formula.specs.Syntax.Syntax.{Bin}
use Rattle.mm_formula.specs.declared.formula.Connective.TheVariants.{And}
use Rattle.mm_minor.proofs.BuildLemmas.{alike_more}
use Rattle.mm_minor.proofs.conditions.with_all_alike.Goals as goal

pub loop-s-preserved : goal.loop-s-preserved
loop-s-preserved c =
    c.in_ok-joined.ensures
    ∙ ap₂ (λ F G. Bin And F G) c.loop-s.invariant c.in_ok-condition.ensures
    ∙ sym (alike_more (syntax_of c.args.formula) c.args.n.now c.loop-s.s c.loop-s.auto.s)
