use Rattle.std.proofs.Common.{◌≡◌}
use Rattle.mm_formula.specs.Syntax.{syntax_of}
use Rattle.mm_minor.specs.MinorFormula.{with_some}
use Rattle.mm_minor.proofs.BuildLemmas.{elements_from}
use Rattle.mm_minor.proofs.formula.with_some_elements.Given as goal

abbrev pub invariant-loop-i : goal.invariant-loop-i
invariant-loop-i l = syntax_of l.bound ≡ with_some (elements_from l.k l.i) (syntax_of l.initial.bound)
