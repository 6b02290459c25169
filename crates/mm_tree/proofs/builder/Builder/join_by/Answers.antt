use Rattle.std.proofs.Common.{rules, ℕ, ◌≡◌, ◌+◌, ◌++◌, max, List, [], ◌∷◌, refl, sym, ap, ap₂, ◌∙◌}
use Rattle.std.specs.Box.{with_value}
use Rattle.mm_field.specs.declared.Field.{Field}
use Rattle.mm_tree.specs.Building.{BuilderValue, join_fault, joined}
use Rattle.mm_tree.specs.NamedTree.{Tree}
use Rattle.mm_tree.specs.declared.builder.StackEntry.{StackEntry}
use Rattle.mm_tree.specs.declared.node.Node.TheViews as views
use Rattle.mm_tree.proofs.BuilderLemmas.{all_after, names_after, joined_trees}
use Rattle.mm_tree.proofs.builder.Builder.join_by.Goals as goal

pub invariant_of-self-2 : goal.invariant_of-self-2
invariant_of-self-2 c =
    let f = c.self.inside.field in
    let items = c.self.inside.trees.items in
    let rest = c.pop.new.self.items in
    let front = c.pop-2.new.self.items in
    let now = c.push.new.self.items in
    let r = c.in-Some-pop.right in
    let l = c.in-Some-pop-2.left in
    let g : StackEntry = record { node = with_value c.in-Ok.node (views.Join c.args.name c.args.op l.node r.node); depth = c.max-depth.result + 1 } in
    let field = ap (λ (v : BuilderValue). v.f) c.self.view_is in
    let trees = ap (λ (v : BuilderValue). v.trees) c.self.view_is in
    let last : items ≡ rest ++ r ∷ [] = search rules in
    let before : rest ≡ front ++ l ∷ [] = search rules in
    let after : now ≡ front ++ g ∷ [] = search rules in
    let deep : c.max-depth.result ≡ max l.depth r.depth = search rules in
    record {
      each = all_after f items rest front now c.args.name c.args.op l r g last before after c.names_have_their_form.ensures (c.requires ∙ sym field) c.field.ensures.valid
          (ap (join_fault c.args.op) trees ∙ sym c.join_fault.ensures ∙ c.in_default.is) refl (ap (λ (k : ℕ). k + 1) deep) c.self.invariant.each;
      names = c.self.invariant.names ∙ names_after items rest front now c.args.name c.args.op l r g last before after refl;
      different = c.self.invariant.different;
      few = c.self.invariant.few;
    }

pub returns-clause-ok : goal.returns-clause-ok
returns-clause-ok c =
    let items = c.self.inside.trees.items in
    let rest = c.pop.new.self.items in
    let front = c.pop-2.new.self.items in
    let now = c.push.new.self.items in
    let r = c.in-Some-pop.right in
    let l = c.in-Some-pop-2.left in
    let g : StackEntry = record { node = with_value c.in-Ok.node (views.Join c.args.name c.args.op l.node r.node); depth = c.max-depth.result + 1 } in
    let last : items ≡ rest ++ r ∷ [] = search rules in
    let before : rest ≡ front ++ l ∷ [] = search rules in
    let after : now ≡ front ++ g ∷ [] = search rules in
    ap₂ (λ (f : Field) (ts : List Tree). let v : BuilderValue = record { f = f; trees = ts } in v) (ap (λ (v : BuilderValue). v.f) c.self.view_is)
    (joined_trees items rest front now c.args.name c.args.op l r g last before after refl
    ∙ ap (λ (v : BuilderValue). joined c.args.name c.args.op v.trees) c.self.view_is)
