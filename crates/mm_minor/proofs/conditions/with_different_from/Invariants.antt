use Rattle.std.proofs.Common.{◌≡◌}
use Rattle.mm_formula.specs.Syntax.{syntax_of}
use Rattle.mm_minor.specs.MinorFormula.{conjunction}
use Rattle.mm_minor.proofs.BuildLemmas.{different_until}
use Rattle.mm_minor.proofs.conditions.with_different_from.Given as goal

abbrev pub invariant-loop-j : goal.invariant-loop-j
invariant-loop-j l = syntax_of l.joined ≡ conjunction (syntax_of l.initial.joined) (different_until l.i l.j)
