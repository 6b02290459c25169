use Rattle.mm_least.specs.LeastSets.{IsLightestBefore, is_accepted}
use Rattle.mm_least.proofs.best.best_place.Given as goal

abbrev pub invariant-loop-k : goal.invariant-loop-k
invariant-loop-k g l = IsLightestBefore (is_accepted (g.A.Automaton.shape l.fn.automaton) (g.A.Automaton.lists l.fn.automaton)) l.fn.rows l.k l.best
