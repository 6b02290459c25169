use Rattle.std.proofs.Common.{◌≡◌, sym, ap, subst, ◌∙◌}
use Rattle.std.proofs.lemmas.Result.{IfOk-weaker}
use Rattle.mm_logic.specs.Tree as shapes
use Rattle.mm_matrix.specs.MatrixValue.{MatrixValue}
use Rattle.mm_tree.specs.NamedTree.{shape}
use Rattle.mm_tree.specs.Nodes.{named_leaf}
use Rattle.mm_present.specs.Joining.{boundary_matrix}
use Rattle.mm_present.proofs.NodeLemmas.{shape_of_element, shape_of_void}
use Rattle.mm_present.proofs.collecting.leaf_rows.Goals as goal

pub column-requires : goal.column-requires
column-requires c =
    (subst (λ (T : shapes.Tree). shapes.IsValid c.args.f T) (shape_of_element c.args.leaf.now c.in-Some.item c.in-Some.is) c.requires).0

pub returns-in-Some : goal.returns-in-Some
returns-in-Some c =
    let f = c.args.f in
    let s = shape_of_element c.args.leaf.now c.in-Some.item c.in-Some.is in
    IfOk-weaker c.column.result (λ (m : MatrixValue). m ≡ boundary_matrix f (shapes.Tree.Elem c.in-Some.item.vec)) (λ (m : MatrixValue). m ≡ boundary_matrix f (shape (named_leaf c.args.leaf.now))) (λ m e. e ∙ ap (boundary_matrix f) (sym s)) c.column.ensures

pub returns-in-None : goal.returns-in-None
returns-in-None c =
    let f = c.args.f in
    let s = shape_of_void c.args.leaf.now c.in-None.is in
    IfOk-weaker c.no_columns.result (λ (m : MatrixValue). m ≡ boundary_matrix f (shapes.Tree.Void c.args.leaf.now.t)) (λ (m : MatrixValue). m ≡ boundary_matrix f (shape (named_leaf c.args.leaf.now))) (λ m e. e ∙ ap (boundary_matrix f) (sym s)) c.no_columns.ensures
