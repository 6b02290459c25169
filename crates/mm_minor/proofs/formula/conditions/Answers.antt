use Rattle.mm_formula.specs.Syntax.{syntax_of}
use Rattle.mm_minor.proofs.BuildLemmas.{conditions_are}
use Rattle.mm_minor.proofs.formula.conditions.Goals as goal

pub returns : goal.returns
returns c =
    conditions_are c.args.n.now c.cols-k.result (syntax_of c.in_ok-independent.independent) (syntax_of c.in_ok-outside.outside)
    (syntax_of c.in_ok-different.different) (syntax_of c.in_ok-joined.joined) c.cols-k.ensures (c.in_ok-independent.ensures c.args.n.now.cols)
    c.in_ok-outside.ensures c.in_ok-different.ensures c.in_ok-joined.ensures
