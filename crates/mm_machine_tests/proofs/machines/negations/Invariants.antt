use Rattle.std.proofs.Common.{◌≡◌, true}
use Rattle.mm_formula.specs.Syntax.{syntax_of, is_well_sorted}
use Rattle.mm_machine_tests.proofs.machines.negations.Given as goal

abbrev pub invariant-loop : goal.invariant-loop
invariant-loop l = is_well_sorted (syntax_of l.formula) ≡ true
