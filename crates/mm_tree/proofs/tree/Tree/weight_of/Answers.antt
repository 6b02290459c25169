use Rattle.std.proofs.Common.{rules, ℤ, Bool, true, ◌≡◌, sym, ap, ◌∙◌, Some, Option, pos}
use Rattle.std.specs.Bool.{IsTrue}
use Rattle.std.specs.Option as options
use Rattle.mm_tree.specs.NamedTree.{element_names, is_one_of}
use Rattle.mm_tree.specs.TreeValue.{TreeValue}
use Rattle.mm_tree.specs.Weights.{weight_named}
use Rattle.mm_tree.proofs.TreeLemmas.{has_weight}
use Rattle.mm_tree.proofs.tree.Tree.weight_of.Goals as goal

is_true : (b : Bool) → IsTrue b → b ≡ true
is_true b t = search rules

some_of : (o : Option ℤ) (w r : ℤ) → o ≡ Some w → r ≡ options.unwrap_or o (pos 0) → o ≡ Some r
some_of o w r e p = e ∙ ap (λ (x : ℤ). Some x) (sym (p ∙ ap (λ (x : Option ℤ). options.unwrap_or x (pos 0)) e))

pub returns : goal.returns
returns c =
    let name = c.args.name.now in
    let tree = ap (λ (v : TreeValue). weight_named name v.tree) c.self.view_is in
    let w = has_weight name c.args.self.now.tree (is_true (is_one_of name (element_names c.args.self.now.tree)) c.requires) in
    sym tree ∙ sym c.weight_of.ensures
    ∙ some_of c.weight_of.result w.0 c.unwrap_or.result (c.weight_of.ensures ∙ tree ∙ w.1) c.unwrap_or.ensures
    ∙ ap (λ (x : ℤ). Some x) (search rules)
