use Rattle.std.proofs.Common.{map, ap, ◌∙◌}
use Rattle.mm_logic.specs.Meaning.{union}
use Rattle.mm_reference_meaning.specs.Rows.{rows_of}
use Rattle.mm_reference_meaning.specs.Trees.{tree_of}
use Rattle.mm_reference_meaning.specs.Formulas.{term_of, marks_of}
use Rattle.mm_reference_meaning.proofs.AssignmentLemmas.{chosen_rows}
use Rattle.mm_reference.proofs.types.ind_type.Goals as goal

pub independent-requires : goal.independent-requires
independent-requires c =
    chosen_rows c.args.f (tree_of c.args.tree.now) (union (term_of c.args.term.now) (map marks_of c.args.marks.now)) (rows_of c.deref.result.now)
    c.boundary-t.result c.internal-m.result c.requires.valid (ap rows_of c.deref.ensures.value ∙ c.in_ok-some.ensures) c.boundary-t.ensures c.internal-m.ensures

pub boundary_space-requires : goal.boundary_space-requires
boundary_space-requires c =
    chosen_rows c.args.f (tree_of c.args.tree.now) (union (term_of c.args.term.now) (map marks_of c.args.marks.now)) (rows_of c.deref-2.result.now)
    c.boundary-t.result c.internal-m.result c.requires.valid (ap rows_of c.deref-2.ensures.value ∙ c.in_ok-some.ensures) c.boundary-t.ensures c.internal-m.ensures
