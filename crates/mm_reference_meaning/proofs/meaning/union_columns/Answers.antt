use Rattle.std.proofs.Common.{map, length, sym, ap, ap₂, ◌∙◌}
use Rattle.std.specs.List.{items_where_true}
use Rattle.std.proofs.lemmas.List.{length-map}
use Rattle.mm_logic.specs.Marks.{in_term}
use Rattle.mm_logic_laws.proofs.MatrixLemmas.{length-columns}
use Rattle.mm_reference_meaning.specs.Rows.{rows_of}
use Rattle.mm_reference_meaning.specs.Trees.{tree_of}
use Rattle.mm_reference_meaning.specs.Formulas.{term_of, marks_of}
use Rattle.mm_reference_meaning.proofs.meaning.union_columns.Goals as goal

pub chosen-requires : goal.chosen-requires
chosen-requires c =
    let ms = map marks_of c.args.marks.now in
    let T = tree_of c.args.tree.now in
    ap length c.deref-2.ensures.value ∙ ap length c.in_ok-set.ensures
    ∙ length-map ms (in_term (term_of c.args.term.now)) ∙ length-map c.args.marks.now marks_of ∙ c.requires.each
    ∙ sym (sym (length-map c.deref.result.now (λ v. v.items)) ∙ ap length (ap rows_of c.deref.ensures.value ∙ c.in_ok-all.ensures) ∙ length-columns c.args.f T)

pub returns : goal.returns
returns c =
    c.in_ok-chosen.ensures
    ∙ ap₂ (λ Y us. items_where_true Y us) (c.deref-2.ensures.value ∙ c.in_ok-set.ensures) (ap rows_of c.deref.ensures.value ∙ c.in_ok-all.ensures)
