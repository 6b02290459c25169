use Rattle.std.proofs.Common.{◌≡◌, ◌+◌, ◌*◌, take, true, false}
use Rattle.std.specs.List.{list_any, list_all}
use Rattle.mm_formula.specs.Syntax.{syntax_of, nodes}
use Rattle.mm_checker.specs.KeptAcceptance.{takes}
use Rattle.mm_checker.proofs.accepts.+takes.Given as goal

abbrev pub decreases-takes : goal.decreases-takes
decreases-takes l = 2 * nodes (syntax_of l.formula.now)

abbrev pub decreases-any_accepted : goal.decreases-any_accepted
decreases-any_accepted l = 2 * nodes (syntax_of l.formula.now) + 1

abbrev pub decreases-all_accepted : goal.decreases-all_accepted
decreases-all_accepted l = 2 * nodes (syntax_of l.formula.now) + 1

abbrev pub invariant-any_accepted-loop-i : goal.invariant-any_accepted-loop-i
invariant-any_accepted-loop-i l = list_any (takes l.values.ended.keys (syntax_of l.formula)) (take l.i l.numbers) ≡ false

abbrev pub invariant-all_accepted-loop-i : goal.invariant-all_accepted-loop-i
invariant-all_accepted-loop-i l = list_all (takes l.values.ended.keys (syntax_of l.formula)) (take l.i l.numbers) ≡ true
