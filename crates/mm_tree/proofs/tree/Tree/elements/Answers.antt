use Rattle.std.proofs.Common.{◌++◌, sym, ap, ◌∙◌, subst}
use Rattle.std.specs.List.{IsDistinct}
use Rattle.std.specs.Str.{bytes_eq}
use Rattle.mm_tree.specs.NamedTree.{element_names}
use Rattle.mm_tree.specs.Nodes.{named}
use Rattle.mm_tree.proofs.ElementLemmas.{different_elements}
use Rattle.mm_tree.proofs.tree.Tree.elements.Goals as goal

pub returns-clause-different : goal.returns-clause-different
returns-clause-different c =
    let tree = named c.self.inside.node in
    let names = c.in_ok-push_elements.ensures ∙ ap (λ old. old ++ element_names tree) c.new-names.ensures in
    subst (λ xs. IsDistinct bytes_eq xs) (sym names) (different_elements tree c.self.invariant.valid.different)
