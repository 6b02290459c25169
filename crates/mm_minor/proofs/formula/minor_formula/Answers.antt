use Rattle.std.proofs.Common.{◌≡◌, ap, ◌∙◌}
use Rattle.std.specs.Prelude.{None}
use Rattle.mm_formula.specs.Syntax.{syntax_of, is_well_sorted}
use Rattle.mm_formula.specs.Scope.{scope_fault}
use Rattle.mm_minor.specs.MinorFormula.{minor_formula}
use Rattle.mm_minor.proofs.BuildLemmas.{minor_formula_is}
use Rattle.mm_minor.proofs.ScopeLemmas.{minor_formula_sorted, minor_formula_scoped}
use Rattle.mm_minor.proofs.formula.minor_formula.Goals as goal

pub returns : goal.returns
returns c =
    let made : syntax_of c.in_ok-formula.formula ≡ minor_formula c.args.n.now =
    minor_formula_is c.args.n.now c.cols.result c.contracted.result (syntax_of c.in_ok-conditions.conditions) (syntax_of c.in_ok-bound.bound)
    (syntax_of c.in_ok-formula.formula) c.cols.ensures c.contracted.ensures c.in_ok-conditions.ensures c.in_ok-bound.ensures c.in_ok-formula.ensures in
    record {
      formula = made;
      sorted = ap is_well_sorted made ∙ minor_formula_sorted c.args.n.now;
      scoped = ap (λ F. scope_fault F None) made ∙ minor_formula_scoped c.args.n.now c.requires;
    }
