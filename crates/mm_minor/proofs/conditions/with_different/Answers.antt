use Rattle.std.proofs.Common.{sym, ap, ◌∙◌}
use Rattle.mm_formula.specs.Syntax.{syntax_of}
use Rattle.mm_minor.specs.MinorFormula.{different_from, conjunction}
use Rattle.mm_minor.proofs.BuildLemmas.{different_more}
use Rattle.mm_minor.proofs.conditions.with_different.Goals as goal

pub loop-i-preserved : goal.loop-i-preserved
loop-i-preserved c =
    c.in_ok-joined.ensures
    ∙ ap (λ F. conjunction F (different_from c.args.k c.loop-i.i)) c.loop-i.invariant
    ∙ sym (different_more (syntax_of c.args.formula) c.args.k c.loop-i.i)
