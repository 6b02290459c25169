use Rattle.std.proofs.Common.{◌≡◌}
use Rattle.mm_formula.specs.Syntax.{syntax_of}
use Rattle.mm_minor.specs.MinorFormula.{conjunction}
use Rattle.mm_minor.proofs.BuildLemmas.{alike_until}
use Rattle.mm_minor.proofs.conditions.with_all_alike.Given as goal

abbrev pub invariant-loop-s : goal.invariant-loop-s
invariant-loop-s l = syntax_of l.joined ≡ conjunction (syntax_of l.initial.joined) (alike_until l.n l.s)
