use Rattle.std.proofs.Common.{refl, ap, ◌∙◌, subst, Err}
use Rattle.std.specs.declared.result.Result.{Result}
use Rattle.mm_tree.specs.TreeValue.{TreeValue}
use Rattle.mm_decomp.specs.Building.{BuildsFrom, given_of}
use Rattle.mm_decomp.specs.DualOutput.{dual_of_tree}
use Rattle.mm_decomp.specs.GivenTrees.{tree_given}
use Rattle.mm_decomp.specs.HeaderText.{header_text}
use Rattle.mm_decomp.specs.TreeShapes.{element_shape}
use Rattle.mm_decomp.specs.declared.build.DecompFault.{DecompFault}
use Rattle.mm_decomp.proofs.DualTextLemmas.{dual_leaves, dual_text_is, has_steps, never_wide, same_header}
use Rattle.mm_decomp.proofs.dual.write_shaped.Goals as goal

pub build_tree-requires : goal.build_tree-requires
build_tree-requires c =
    let t = c.args.text.now in
    let all = c.args.shape.now in
    dual_leaves t c.requires.given c.node.ensures.valid c.rows.ensures.each c.in_ok-rows.rows c.in_ok-rows.ensures c.rows-3.ensures.each all
    (has_steps (element_shape t.tree.tree) all c.requires.shape)

pub returns-in-Ok : goal.returns-in-Ok
returns-in-Ok c =
    let t = c.args.text.now in
    let all = c.args.shape.now in
    let rows = c.in_ok-rows.rows in
    let text = header_text t.given.names rows c.in-Ok.tree.tree in
    same_header c.write_header.result text (dual_of_tree (tree_given t))
    (dual_text_is t c.requires.given c.node.ensures.valid c.rows.ensures.each rows c.in_ok-rows.ensures c.rows-3.ensures.each all
    (has_steps (element_shape t.tree.tree) all c.requires.shape) c.in-Ok.tree text c.in-Ok.ensures refl)
    c.write_header.ensures

pub unreachable-requires : goal.unreachable-requires
unreachable-requires c =
    let t = c.args.text.now in
    let all = c.args.shape.now in
    never_wide t c.requires.given c.node.ensures.valid c.rows.ensures.each c.in_ok-rows.rows c.in_ok-rows.ensures c.rows-3.ensures.each all
    (has_steps (element_shape t.tree.tree) all c.requires.shape) c.in-Err-Width.field-0-0
    (subst (λ (r : Result TreeValue DecompFault). BuildsFrom (given_of t.given.names c.in_ok-rows.rows) all r)
    (c.in-Err-Width.is ∙ ap Err c.in-Err-Width.field-0-is) c.build_tree.ensures)
