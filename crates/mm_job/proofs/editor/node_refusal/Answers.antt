use Rattle.std.proofs.Common.{◌≡◌, subst, sym, ◌∙◌}
use Rattle.std.specs.Prelude.{Ok}
use Rattle.mm_job.specs.Edits.{replaced_path}
use Rattle.mm_job.proofs.EditLemmas.{node_path}
use Rattle.mm_tree.specs.Paths.{Path}
use Rattle.mm_tree.specs.TreeValue.{TreeValue}
use Rattle.mm_job.proofs.editor.node_refusal.Goals as goal

pub returns-in-Some-clause-none : goal.returns-in-Some-clause-none
returns-in-Some-clause-none c = λ none.
    let above = c.args.above.now in
    subst (λ (T : TreeValue). (path : Path) × (replaced_path T.tree above.name above.up ≡ Ok path)) c.tree-tree.ensures.tree
    (node_path c.tree-tree.result.now.tree above.name above.up c.in-Some.field-0 (sym c.has_leaf.ensures ∙ c.if-not-has_leaf.false) (sym c.in-Some.is ∙ c.place.ensures.found))
