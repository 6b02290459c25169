use Rattle.std.proofs.Common.{ℕ, Option, List, ◌++◌, ◌∷◌, [], refl, sym, ap, subst, ◌∙◌, take, ◌-◌}
use Rattle.mm_ops.specs.OpValue.{OpValue}
use Rattle.mm_ops.specs.Tables.{op_named, OperatorList}
use Rattle.mm_tree.specs.Building.{AreOver, joined, joined_by, named_fault}
use Rattle.mm_decomp.proofs.FaultLemmas.{op_alone}
use Rattle.mm_decomp.proofs.build.Building.put_join.Goals as goal

pub join_trees-requires-clause-over : goal.join_trees-requires-clause-over
join_trees-requires-clause-over c =
    subst (λ (o : OperatorList). AreOver c.args.self.now.builder.f o) (sym c.in_ok-table.ensures) (c.requires.field, tt)

pub join_trees-requires-clause-fits : goal.join_trees-requires-clause-fits
join_trees-requires-clause-fits c =
    let name = c.in_ok-name.name in
    let trees = c.args.self.now.builder.trees in
    ap (λ (o : OperatorList). named_fault name (op_named name o) trees) c.in_ok-table.ensures
    ∙ ap (λ (o : Option OpValue). named_fault name o trees) (op_alone name c.args.joined.op) ∙ c.requires.fits

pub returns : goal.returns
returns c =
    let old = c.args.self.now in
    let op = c.args.joined.op in
    let name = c.in_ok-name.name in
    let found = ap (op_named name) c.in_ok-table.ensures ∙ op_alone name op in
    record {
      field = refl;
      builder = c.in_ok-join_trees.ensures
          ∙ ap (λ o. record old.builder { trees = joined_by name o old.builder.trees }) found
          ∙ ap (λ (n : List ℕ). record old.builder { trees = joined n op old.builder.trees }) c.in_ok-name.ensures;
      forms = c.in_ok-push.ensures.items
          ∙ ap (λ xs. xs ++ c.args.joined.form ∷ []) (c.truncate.ensures.items ∙ ap (λ n. take (n - 2) old.forms.items) (c.len.ensures ∙ old.forms.ok.0));
      leaves = refl;
      joins = refl;
    }
