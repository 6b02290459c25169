use Rattle.std.proofs.Common.{length, sym, ap, ◌∙◌, arith}
use Rattle.std.specs.Option.{is_some}
use Rattle.mm_ops.specs.Tables.{OperatorList}
use Rattle.mm_ops.proofs.TableLemmas.{taken_refused, full_refused, none_refused}
use Rattle.mm_ops.proofs.table.OpTable.refusal.Goals as goal

pub returns-then-is_some : goal.returns-then-is_some
returns-then-is_some c =
    sym (taken_refused c.args.name.now c.args.self.now (ap is_some (sym c.find.ensures.found) ∙ sym c.is_some.ensures ∙ c.if-is_some.true))

pub returns-then-len-ge-MAX_OPS : goal.returns-then-len-ge-MAX_OPS
returns-then-len-ge-MAX_OPS c =
    sym (full_refused c.args.name.now c.args.self.now (ap is_some (sym c.find.ensures.found) ∙ sym c.is_some.ensures ∙ c.if-is_some.false)
    (let e = ap (λ (x : OperatorList). length x) c.self.view_is in let k = c.len.ensures.len in omega (arith, c.if-len-ge-MAX_OPS.true)))

pub returns : goal.returns
returns c =
    sym (none_refused c.args.name.now c.args.self.now (ap is_some (sym c.find.ensures.found) ∙ sym c.is_some.ensures ∙ c.if-is_some.false)
    (let e = ap (λ (x : OperatorList). length x) c.self.view_is in let k = c.len.ensures.len in omega (arith, c.if-len-ge-MAX_OPS.false)))
