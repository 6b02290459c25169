use Rattle.std.proofs.Common.{◌∙◌, sym, nat_eq}
use Rattle.indexmap.proofs.CallerLemmas.{insert_entry-new}
use Rattle.mm_checker.proofs.TableLemmas.{none_is}
use Rattle.mm_checker.proofs.nodes.Table.add.Goals as goal

pub returns : goal.returns
returns c =
    let none = sym c.get.ensures ∙ none_is c.get.result (sym c.is_some.ensures ∙ c.if-is_some.false) in
    (none, c.in_ok-insert.ensures.entries ∙ insert_entry-new nat_eq c.args.self.now.rows c.args.row.now.value c.args.row.now none)
