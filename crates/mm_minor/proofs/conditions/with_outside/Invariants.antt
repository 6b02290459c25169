use Rattle.std.proofs.Common.{◌≡◌}
use Rattle.mm_formula.specs.Syntax.{syntax_of}
use Rattle.mm_minor.specs.MinorFormula.{outside, conjunction}
use Rattle.mm_minor.proofs.conditions.with_outside.Given as goal

abbrev pub invariant-loop-i : goal.invariant-loop-i
invariant-loop-i l = syntax_of l.joined ≡ conjunction (syntax_of l.initial.joined) (outside l.i)
