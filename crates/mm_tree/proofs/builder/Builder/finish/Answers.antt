use Rattle.std.proofs.Common.{rules, ℕ, ◌≡◌, ◌≤◌, ◌++◌, List, [], ◌∷◌, sym, ap, ◌∙◌, subst, length, arith}
use Rattle.std.specs.List.{All, IsDistinct}
use Rattle.std.specs.Str.{bytes_eq}
use Rattle.std.proofs.lemmas.List.Elements.{All-nil}
use Rattle.mm_tree.specs.Building.{BuilderValue, names_in}
use Rattle.mm_tree.specs.BuilderView.{IsStackEntry, trees_of}
use Rattle.mm_tree.specs.Nodes.{named, IsOver}
use Rattle.mm_tree.specs.ValidTree.{most_leaves}
use Rattle.mm_tree.specs.declared.builder.StackEntry.{StackEntry}
use Rattle.mm_tree.specs.declared.node.Node.{Node}
use Rattle.mm_tree.proofs.TreeLemmas.{over_field}
use Rattle.mm_tree.proofs.BuilderLemmas.{none_distinct, alone_there, one_tree, one_grown, grown_stands}
use Rattle.mm_tree.proofs.builder.Builder.finish.Goals as goal

pub invariant_of-result : goal.invariant_of-result
invariant_of-result c =
    let items = c.self.inside.trees.items in
    let rest = c.pop.new.self.items in
    let g = c.in-Some.grown in
    let split : items ≡ rest ++ g ∷ [] = search rules in
    let one : length items ≡ 1 = search rules in
    let node : c.into_inner.result ≡ g.node.value = search rules in
    grown_stands c.self.inside.field g c.self.inside.names.keys c.into_inner.result node
    (one_grown c.self.inside.field items rest g split one c.self.invariant.each)
    (c.self.invariant.names ∙ ap names_in (one_tree items rest g split one)) c.self.invariant.different c.self.invariant.few

pub invariant_of-self-2 : goal.invariant_of-self-2
invariant_of-self-2 c =
    let rest = c.pop.new.self.items in
    let g = c.in-Some.grown in
    let split : c.self.inside.trees.items ≡ rest ++ g ∷ [] = search rules in
    let one : length c.self.inside.trees.items ≡ 1 = search rules in
    let none = alone_there c.self.inside.trees.items rest g split one in
    let keys : c.clear.new.self.keys ≡ [] = search rules in
    record {
      each = subst (λ (xs : List StackEntry). All (λ g. IsStackEntry c.self.inside.field g) xs) (sym none) (All-nil (λ g. IsStackEntry c.self.inside.field g));
      names = keys ∙ sym (ap (λ (xs : List StackEntry). names_in (trees_of xs)) none);
      different = subst (λ (ns : List (List ℕ)). IsDistinct bytes_eq ns) (sym keys) none_distinct;
      few = subst (λ (ns : List (List ℕ)). length ns ≤ most_leaves) (sym keys) (omega arith);
    }

pub returns-clause-ok : goal.returns-clause-ok
returns-clause-ok c =
    let items = c.self.inside.trees.items in
    let rest = c.pop.new.self.items in
    let g = c.in-Some.grown in
    let split : items ≡ rest ++ g ∷ [] = search rules in
    let one : length items ≡ 1 = search rules in
    let node : c.into_inner.result ≡ g.node.value = search rules in
    let field = ap (λ (v : BuilderValue). v.f) c.self.view_is in
    let grown = one_grown c.self.inside.field items rest g split one c.self.invariant.each in (
      sym (ap (λ (v : BuilderValue). v.trees) c.self.view_is) ∙ one_tree items rest g split one ∙ ap (λ (x : Node). named x ∷ []) (sym node),
      over_field c.self.inside.field c.into_inner.result (subst (λ (x : Node). IsOver c.self.inside.field x) (sym node) grown.over) ∙ field,
      field,
      ap trees_of (alone_there items rest g split one),
    )
