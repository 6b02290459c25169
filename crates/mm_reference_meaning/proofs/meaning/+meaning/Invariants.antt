use Rattle.std.proofs.Common.{◌≡◌, ◌+◌, ◌*◌, not, take}
use Rattle.mm_reference_meaning.specs.Evaluation.{holds_with, truth_of}
use Rattle.mm_reference_meaning.specs.Formulas.{inner_nodes, tests_of}
use Rattle.mm_reference_meaning.proofs.meaning.+meaning.Given as goal

abbrev pub decreases-holds : goal.decreases-holds
decreases-holds l = 2 * inner_nodes l.formula.now

abbrev pub decreases-holds_over : goal.decreases-holds_over
decreases-holds_over l = 2 * inner_nodes l.formula.now + 1

abbrev pub invariant-holds_over-loop-set : goal.invariant-holds_over-loop-set
invariant-holds_over-loop-set l =
    truth_of l.some (holds_with l.f l.formula l.tree l.k l.marks) (take l.set-index (tests_of l.set-items)) ≡ not l.some
