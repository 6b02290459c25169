use Rattle.std.proofs.Common.{[], ◌∷◌, ◌++◌, sym, ap, ◌∙◌, subst}
use Rattle.indexmap.proofs.CallerLemmas.{insert_entry-new}
use Rattle.mm_base.specs.contracts.name.NamePartialEq.TheImpl.{eq-value}
use Rattle.mm_ops.specs.Tables.{NamesDiffer, OperatorList, refusal_of}
use Rattle.mm_ops.proofs.TableLemmas.{names_differ_more, new_name, not_there}
use Rattle.mm_ops.proofs.table.OpTable.add.Goals as goal

pub returns-clause-ok : goal.returns-clause-ok
returns-clause-ok c =
    c.in-Ok.ensures.entries
    ∙ insert_entry-new (eq-value).it c.self.inside.ops c.args.name c.args.op
    (not_there c.args.name c.self.inside.ops.entries (ap (refusal_of c.args.name) c.self.view_is ∙ sym c.refusal.ensures ∙ c.in_default.is))
    ∙ ap (λ (x : OperatorList). x ++ (c.args.name, c.args.op) ∷ []) c.self.view_is

pub invariant_of-self-2 : goal.invariant_of-self-2
invariant_of-self-2 c =
    let entries = c.self.inside.ops.entries in
    let free = ap (refusal_of c.args.name) c.self.view_is ∙ sym c.refusal.ensures ∙ c.in_default.is in
    subst (λ (x : OperatorList). NamesDiffer x)
    (sym (c.in-Ok.ensures.entries ∙ insert_entry-new (eq-value).it c.self.inside.ops c.args.name c.args.op (not_there c.args.name entries free)))
    (names_differ_more c.args.name c.args.op entries c.self.invariant (new_name c.args.name entries free))
