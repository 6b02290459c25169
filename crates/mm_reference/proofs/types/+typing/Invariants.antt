use Rattle.std.proofs.Common.{◌≡◌, ◌+◌, ◌*◌, map, take}
use Rattle.mm_logic.specs.Marks.{assign}
use Rattle.mm_logic.specs.Types as types
use Rattle.mm_reference_meaning.specs.Trees.{tree_of}
use Rattle.mm_reference_meaning.specs.Formulas.{formula_of, inner_nodes, marks_of, tests_of}
use Rattle.mm_reference.specs.Values.{values_of}
use Rattle.mm_reference.proofs.types.+typing.Given as goal

abbrev pub decreases-read_type : goal.decreases-read_type
decreases-read_type l = 3 * inner_nodes l.formula.now

abbrev pub decreases-types_over : goal.decreases-types_over
decreases-types_over l = 3 * inner_nodes l.formula.now + 1

abbrev pub decreases-set_type : goal.decreases-set_type
decreases-set_type l = 3 * inner_nodes l.part.now + 2

abbrev pub decreases-elem_type : goal.decreases-elem_type
decreases-elem_type l = 3 * inner_nodes l.part.now + 2

abbrev pub invariant-types_over-loop-set : goal.invariant-types_over-loop-set
invariant-types_over-loop-set l =
    values_of l.types.items
    ≡ map (λ X. types.type_of l.f (formula_of l.formula) (tree_of l.tree) (assign l.k X (map marks_of l.marks))) (take l.set-index (tests_of l.sets))
