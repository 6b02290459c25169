use Rattle.std.proofs.Common.{ℕ, ap, ap₂, ◌∙◌, subst, arith}
use Rattle.mm_tree.specs.NamedTree.{Tree, nodes}
use Rattle.mm_tree.specs.Nodes.{named}
use Rattle.mm_tree.specs.Paths.{node_at}
use Rattle.mm_tree.specs.Places.{path_of}
use Rattle.mm_tree.specs.Steps.{IsSought}
use Rattle.mm_tree.specs.TreeValue.{TreeValue}
use Rattle.mm_tree.specs.declared.splice.Sought.{Sought}
use Rattle.mm_tree.proofs.tree.Tree.at.Goals as goal

pub returns-in-Here : goal.returns-in-Here
returns-in-Here c =
    let s = subst (λ (x : Sought). IsSought (named c.self.inside.node) c.number.result x) c.in-Here.is c.node_at.ensures in
    s.1 ∙ ap₂ (λ (t : Tree) (k : ℕ). node_at t (path_of k t)) (ap (λ (v : TreeValue). v.tree) c.self.view_is) c.number.ensures

pub returns-in-Beyond : goal.returns-in-Beyond
returns-in-Beyond c =
    let s = subst (λ (x : Sought). IsSought (named c.self.inside.node) c.number.result x) c.in-Beyond.is c.node_at.ensures in
    let size = ap nodes (ap (λ (v : TreeValue). v.tree) c.self.view_is) in
    let number = c.number.ensures in
    let within = c.requires.within in
    let no : ⊥ = omega arith in
    absurd no
