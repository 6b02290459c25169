use Rattle.std.proofs.Common.{[], ap, ◌∙◌}
use Rattle.indexmap.specs.IndexSet.{insert_all}
use Rattle.mm_base.specs.contracts.name.NamePartialEq.TheImpl.{eq-value}
use Rattle.mm_tree.specs.NamedTree.{leaf_names}
use Rattle.mm_tree.specs.Nodes.{named}
use Rattle.mm_tree.specs.TreeValue.{TreeValue}
use Rattle.mm_tree.proofs.ReplaceLemmas.{insert_distinct}
use Rattle.mm_tree.proofs.tree.Tree.leaf_set.Goals as goal

pub returns : goal.returns
returns c =
    let names = leaf_names (named c.self.inside.node) in
    c.in_ok-add_names.ensures ∙ ap (λ ks. insert_all (eq-value).it ks names) c.new-names.ensures.empty
    ∙ insert_distinct [] names c.self.invariant.valid.different ∙ ap (λ (v : TreeValue). leaf_names v.tree) c.self.view_is
