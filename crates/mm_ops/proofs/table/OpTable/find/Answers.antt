use Rattle.std.proofs.Common.{ap, ◌∙◌}
use Rattle.mm_ops.specs.Tables.{op_named}
use Rattle.mm_ops.proofs.TableLemmas.{lookup_is}
use Rattle.mm_ops.proofs.table.OpTable.find.Goals as goal

pub returns-clause-found : goal.returns-clause-found
returns-clause-found c =
    c.copied.ensures ∙ c.get.ensures.value ∙ lookup_is c.args.name.now c.self.inside.ops.entries
    ∙ ap (op_named c.args.name.now) c.self.view_is
