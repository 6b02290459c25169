use Rattle.std.proofs.Common.{rules, ℕ, ℤ, List, ◌≡◌, sym, ap, ◌∙◌, subst}
use Rattle.mm_tree.specs.NamedTree.{Tree}
use Rattle.mm_tree.specs.Nodes.{named, field_of}
use Rattle.mm_tree.specs.Steps.{IsReweighted}
use Rattle.mm_tree.specs.TreeValue.{TreeValue}
use Rattle.mm_tree.specs.TreeView.{Stands}
use Rattle.mm_tree.specs.ValidTree.{IsValidTree}
use Rattle.mm_tree.specs.Paths.{with_weight}
use Rattle.mm_tree.specs.declared.node.Node.{Node}
use Rattle.mm_tree.proofs.TreeLemmas.{first_is_only, valid_weight, stands}
use Rattle.mm_tree.proofs.tree.Tree.set_weight.Goals as goal

changed : {found : _} (name : List ℕ) (weight v : ℤ) (old new : Node) → v ≡ weight → Stands (field_of old) old →
    IsReweighted name v old new found → named new ≡ with_weight name weight (named old)
changed name weight v old new e s r =
    r.tree ∙ first_is_only name v (named old) s.valid.different ∙ ap (λ (w : ℤ). with_weight name w (named old)) e

pub invariant_of-self : goal.invariant_of-self
invariant_of-self c =
    let old = c.self.inside.node in
    let new = c.exchange_weight.new.node in
    let name = c.args.name.now in
    let f = field_of old in
    stands f new (c.exchange_weight.ensures.over f c.self.invariant.over)
    (subst (λ (t : Tree). IsValidTree f t) (sym (changed name c.args.weight _ old new (search rules) c.self.invariant c.exchange_weight.ensures))
    (valid_weight f name c.args.weight (named old) c.requires.light c.self.invariant.valid))

pub returns-clause-tree : goal.returns-clause-tree
returns-clause-tree c =
    changed c.args.name.now c.args.weight _ c.self.inside.node c.exchange_weight.new.node (search rules) c.self.invariant c.exchange_weight.ensures
    ∙ ap (λ (v : TreeValue). with_weight c.args.name.now c.args.weight v.tree) c.self.view_is
