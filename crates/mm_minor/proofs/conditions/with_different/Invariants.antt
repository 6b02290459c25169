use Rattle.std.proofs.Common.{◌≡◌}
use Rattle.mm_formula.specs.Syntax.{syntax_of}
use Rattle.mm_minor.specs.MinorFormula.{conjunction}
use Rattle.mm_minor.proofs.BuildLemmas.{different_before}
use Rattle.mm_minor.proofs.conditions.with_different.Given as goal

abbrev pub invariant-loop-i : goal.invariant-loop-i
invariant-loop-i l = syntax_of l.joined ≡ conjunction (syntax_of l.initial.joined) (different_before l.k l.i)
