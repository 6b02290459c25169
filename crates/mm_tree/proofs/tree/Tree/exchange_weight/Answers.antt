use Rattle.std.proofs.Common.{rules, ℕ, ℤ, List, ◌≡◌, sym, ap, ◌∙◌, subst}
use Rattle.mm_tree.specs.NamedTree.{Tree, element_names, is_one_of}
use Rattle.mm_tree.specs.Nodes.{named, field_of}
use Rattle.mm_tree.specs.Steps.{IsReweighted}
use Rattle.mm_tree.specs.TreeValue.{TreeValue}
use Rattle.mm_tree.specs.TreeView.{Stands}
use Rattle.mm_tree.specs.ValidTree.{IsValidTree}
use Rattle.mm_tree.specs.Paths.{with_weight}
use Rattle.mm_tree.specs.Weights.{weight_named}
use Rattle.mm_tree.specs.declared.node.Node.{Node}
use Rattle.mm_tree.proofs.TreeLemmas.{first_is_only, valid_weight, stands}
use Rattle.mm_tree.proofs.tree.Tree.exchange_weight.Goals as goal

changed : {before : _} (name : List ℕ) (weight v : ℤ) (old new : Node) → v ≡ weight → Stands (field_of old) old →
    IsReweighted name v old new before → named new ≡ with_weight name weight (named old)
changed name weight v old new e s r =
    r.tree ∙ first_is_only name v (named old) s.valid.different ∙ ap (λ (w : ℤ). with_weight name w (named old)) e

pub invariant_of-self : goal.invariant_of-self
invariant_of-self c =
    let old = c.self.inside.node in
    let new = c.exchange_weight.new.node in
    let name = c.args.name.now in
    let f = field_of old in
    stands f new (c.exchange_weight.ensures.over f c.self.invariant.over)
    (subst (λ (t : Tree). IsValidTree f t) (sym (changed name c.args.weight _ old new (search rules) c.self.invariant c.exchange_weight.ensures))
    (valid_weight f name c.args.weight (named old) c.requires c.self.invariant.valid))

pub returns-clause-before : goal.returns-clause-before
returns-clause-before c =
    c.exchange_weight.ensures.answer ∙ ap (λ (v : TreeValue). weight_named c.args.name.now v.tree) c.self.view_is

pub returns-clause-found : goal.returns-clause-found
returns-clause-found c =
    c.exchange_weight.ensures.found ∙ ap (λ (v : TreeValue). is_one_of c.args.name.now (element_names v.tree)) c.self.view_is

pub returns-clause-tree : goal.returns-clause-tree
returns-clause-tree c =
    changed c.args.name.now c.args.weight _ c.self.inside.node c.exchange_weight.new.node (search rules) c.self.invariant c.exchange_weight.ensures
    ∙ ap (λ (v : TreeValue). with_weight c.args.name.now c.args.weight v.tree) c.self.view_is

abbrev seen : Node → TreeValue
seen node = record { f = field_of node; tree = named node }

pub returns-clause-stays : goal.returns-clause-stays
returns-clause-stays c = λ none. ap seen (c.exchange_weight.ensures.kept none) ∙ c.self.view_is
