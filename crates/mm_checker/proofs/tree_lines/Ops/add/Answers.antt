use Rattle.std.proofs.Common.{sym, ap, ◌∙◌, subst}
use Rattle.std.specs.Option.{is_some}
use Rattle.indexmap.proofs.CallerLemmas.{insert_entry-new}
use Rattle.mm_base.specs.contracts.name.NamePartialEq.TheImpl.{eq-value}
use Rattle.mm_ops.specs.Tables.{OperatorList}
use Rattle.mm_ops.proofs.TableLemmas.{lookup_is}
use Rattle.mm_checker.specs.Certificates.{first_op}
use Rattle.mm_checker.specs.KeptLines.{AreOps, only_op}
use Rattle.mm_checker.proofs.LineLemmas.{ops_push, ops_keep, absent}
use Rattle.mm_checker.proofs.tree_lines.Ops.add.Goals as goal

pub returns-then-is_some : goal.returns-then-is_some
returns-then-is_some c = λ f g e h.
    ops_keep f c.args.self.now.kept.entries g c.args.name c.args.op.op (ap is_some (sym c.find.ensures) ∙ sym c.is_some.ensures ∙ c.if-is_some.true) h

pub returns : goal.returns
returns c = λ f g e h.
    let free = absent _ (ap is_some (sym c.find.ensures) ∙ sym c.is_some.ensures ∙ c.if-is_some.false) in
    subst (λ (ops : OperatorList). AreOps f ops (λ n. first_op (g n) (only_op c.args.name c.args.op.op n)))
    (sym (c.in_ok-insert.ensures.entries
    ∙ insert_entry-new (eq-value).it c.args.self.now.kept c.args.name c.args.op (lookup_is c.args.name c.args.self.now.kept.entries ∙ free)))
    (ops_push f c.args.self.now.kept.entries g c.args.name c.args.op e h)
