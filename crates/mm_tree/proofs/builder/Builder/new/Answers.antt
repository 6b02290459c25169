use Rattle.std.proofs.Common.{rules, ℕ, ◌≡◌, ◌≤◌, List, [], sym, ap, ◌∙◌, subst, length, arith}
use Rattle.std.specs.List.{All, IsDistinct}
use Rattle.std.specs.Str.{bytes_eq}
use Rattle.std.proofs.lemmas.List.Elements.{All-nil}
use Rattle.mm_tree.specs.Building.{names_in}
use Rattle.mm_tree.specs.BuilderView.{IsStackEntry, trees_of}
use Rattle.mm_tree.specs.ValidTree.{most_leaves}
use Rattle.mm_tree.specs.declared.builder.StackEntry.{StackEntry}
use Rattle.mm_tree.proofs.BuilderLemmas.{none_distinct}
use Rattle.mm_tree.proofs.builder.Builder.new.Goals as goal

pub invariant_of-result : goal.invariant_of-result
invariant_of-result c =
    let items : c.new.result.items ≡ [] = search rules in
    let keys : c.new-2.result.keys ≡ [] = search rules in
    record {
      each = subst (λ (xs : List StackEntry). All (λ g. IsStackEntry c.args.f g) xs) (sym items) (All-nil (λ g. IsStackEntry c.args.f g));
      names = keys ∙ sym (ap (λ (xs : List StackEntry). names_in (trees_of xs)) items);
      different = subst (λ (ns : List (List ℕ)). IsDistinct bytes_eq ns) (sym keys) none_distinct;
      few = subst (λ (ns : List (List ℕ)). length ns ≤ most_leaves) (sym keys) (omega arith);
    }
