use Rattle.std.proofs.Common.{◌≡◌, take, map, filter}
use Rattle.mm_logic.specs.Marks.{assign}
use Rattle.mm_logic.specs.Meaning as meaning
use Rattle.mm_reference_meaning.specs.Trees.{tree_of}
use Rattle.mm_reference_meaning.specs.Formulas.{formula_of, marks_of, tests_of}
use Rattle.mm_reference_meaning.proofs.first_sets.satisfying.Given as goal

abbrev pub invariant-loop-set : goal.invariant-loop-set
invariant-loop-set l =
    tests_of l.kept.items
    ≡ filter (λ X. meaning.holds l.f (formula_of l.formula) (tree_of l.tree) (assign 0 X (map marks_of l.marks))) (take l.set-index (tests_of l.set-items))
