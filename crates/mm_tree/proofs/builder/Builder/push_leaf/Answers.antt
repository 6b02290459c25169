use Rattle.std.proofs.Common.{rules, ℕ, ◌≡◌, ◌≤◌, ◌<◌, ◌++◌, List, [], ◌∷◌, false, refl, sym, ap, ap₂, ◌∙◌, subst, length, arith, length-append}
use Rattle.std.specs.List.{All, IsDistinct}
use Rattle.std.specs.Str.{bytes_eq}
use Rattle.std.proofs.lemmas.Bool.{leb-false}
use Rattle.std.proofs.lemmas.List.Elements.{All-append, All-cons, All-nil}
use Rattle.mm_field.specs.declared.Field.{Field}
use Rattle.indexmap.specs.IndexSet.{insert_key}
use Rattle.mm_base.specs.contracts.name.NamePartialEq.TheImpl.{eq-value}
use Rattle.mm_tree.specs.Building.{BuilderValue, names_in}
use Rattle.mm_tree.specs.BuilderView.{IsStackEntry, IsGoodLeaf, trees_of}
use Rattle.mm_tree.specs.NamedTree.{Tree, is_one_of}
use Rattle.mm_tree.specs.ValidTree.{most_leaves}
use Rattle.mm_tree.specs.declared.builder.StackEntry.{StackEntry}
use Rattle.mm_tree.specs.declared.node.Node as nodes_of
use Rattle.mm_tree.proofs.BuilderLemmas.{trees_push, insert_new, free_parts, leaf_grown, tree_of_leaf, names_push, distinct_push}
use Rattle.mm_tree.proofs.builder.Builder.push_leaf.Goals as goal

pub invariant_of-self-else-is_err-2 : goal.invariant_of-self-else-is_err-2
invariant_of-self-else-is_err-2 c =
    let f = c.self.inside.field in
    let l = c.args.leaf in
    let items = c.self.inside.trees.items in
    let old = c.self.inside.names.keys in
    let g : StackEntry = record { node = c.in-Ok.node; depth = 0 } in
    let field : f ≡ c.args.self.now.f = ap (λ (v : BuilderValue). v.f) c.self.view_is in
    let value : c.in-Ok.node.value ≡ nodes_of.Leaf l = search rules in
    let pushed : c.push.new.self.items ≡ items ++ g ∷ [] = search rules in
    let inserted : c.insert.new.self.keys ≡ insert_key (eq-value).it old l.name = search rules in
    let free = free_parts l.name c.args.self.now.trees (sym c.leaf_fault.ensures ∙ c.in_default.is) in
    let names = c.self.invariant.names in
    let trees = ap (λ (v : BuilderValue). names_in v.trees) c.self.view_is in
    let absent : is_one_of l.name old ≡ false = ap (is_one_of l.name) (names ∙ trees) ∙ free.0 in
    let keys = inserted ∙ insert_new old l.name absent in
    let good : IsGoodLeaf f l = subst (λ (x : Field). IsGoodLeaf x l) (sym field) (record { over = c.requires.over; valid_shape = c.requires.valid_shape; light = c.requires.light }) in
    let room : length old < most_leaves =
    (let a = leb-false most_leaves (length (names_in c.args.self.now.trees)) free.1 in let b = ap (λ (ns : List (List ℕ)). length ns) (names ∙ trees) in omega arith) in
    record {
      each = subst (λ (xs : List StackEntry). All (λ g. IsStackEntry f g) xs) (sym pushed)
          (All-append (λ g. IsStackEntry f g) items (g ∷ []) c.self.invariant.each
          (All-cons (λ g. IsStackEntry f g) g [] (leaf_grown f l g value refl good c.names_have_their_form.ensures) (All-nil (λ g. IsStackEntry f g))));
      names = keys ∙ names_push items l g old value names ∙ ap (λ (xs : List StackEntry). names_in (trees_of xs)) (sym pushed);
      different = subst (λ (ns : List (List ℕ)). IsDistinct bytes_eq ns) (sym keys) (distinct_push old l.name c.self.invariant.different absent);
      few = subst (λ (ns : List (List ℕ)). length ns ≤ most_leaves) (sym keys) (let a = length-append old (l.name ∷ []) in omega arith);
    }

pub returns-clause-ok : goal.returns-clause-ok
returns-clause-ok c =
    let l = c.args.leaf in
    let items = c.self.inside.trees.items in
    let g : StackEntry = record { node = c.in-Ok.node; depth = 0 } in
    let value : c.in-Ok.node.value ≡ nodes_of.Leaf l = search rules in
    let pushed : c.push.new.self.items ≡ items ++ g ∷ [] = search rules in
    ap₂ (λ (f : Field) (ts : List Tree). let v : BuilderValue = record { f = f; trees = ts } in v) (ap (λ (v : BuilderValue). v.f) c.self.view_is)
    (ap trees_of pushed ∙ trees_push items g ∙ ap₂ (λ (t : Tree) (ts : List Tree). t ∷ ts) (tree_of_leaf l g value) (ap (λ (v : BuilderValue). v.trees) c.self.view_is))
