use Rattle.std.proofs.Common.{subst, ◌∙◌}
use Rattle.mm_present.specs.WholeSpaces.{IsWholeSpace}
use Rattle.mm_present.proofs.WholeSpaceLemmas.{alive_space}
use Rattle.mm_tree.specs.NamedTree.{shape}
use Rattle.mm_tree.specs.Nodes.{named}
use Rattle.mm_present.proofs.independence.is_independent.Goals as goal

pub returns : goal.returns
returns c =
    let space = c.space_of-space.result in
    c.is_some.ensures
    ∙ alive_space c.args.tree.now.f (shape c.args.tree.now.tree) space
    (subst (λ t. IsWholeSpace c.args.tree.now.f (shape t) space) c.node.ensures.tree
    (subst (λ f. IsWholeSpace f (shape (named c.node.result.now)) space) c.field.ensures c.space_of-space.ensures))
