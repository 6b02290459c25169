use Rattle.std.proofs.Common.{◌++◌, map, sym, ap, ap₂, ◌∙◌, append_assoc}
use Rattle.std.proofs.lemmas.List.{replicate-append-replicate}
use Rattle.mm_logic.specs.Marks.{no_marks, unmarked}
use Rattle.mm_logic.specs.Tree.{size}
use Rattle.mm_reference_meaning.specs.Trees.{tree_of}
use Rattle.mm_reference_meaning.specs.Formulas.{marks_of}
use Rattle.mm_reference_meaning.proofs.validity.+push_unmarked.Goals as goal

pub returns-in_ok-push_unmarked-in-Join-2 : goal.returns-in_ok-push_unmarked-in-Join-2
returns-in_ok-push_unmarked-in-Join-2 t c =
    let old = map marks_of c.args.out.now.items in
    let l = tree_of c.in-Join.left.value in
    let r = tree_of c.in-Join.right.value in
    c.in_ok-push_unmarked-in-Join-2.ensures
    ∙ ap₂ (λ ms T. ms ++ unmarked (size (tree_of T)))
    (c.in_ok-push_unmarked-in-Join.ensures ∙ ap (λ T. old ++ unmarked (size (tree_of T))) c.deref.ensures) c.deref-in-Join.ensures
    ∙ append_assoc old (unmarked (size l)) (unmarked (size r))
    ∙ ap (λ ms. old ++ ms) (replicate-append-replicate (size l) (size r) no_marks)
    ∙ ap (λ T. old ++ unmarked (size (tree_of T))) (sym c.in-Join.is)
