use Rattle.std.proofs.Common.{◌∙◌}
use Rattle.mm_ops.proofs.TableLemmas.{lookup_is}
use Rattle.mm_checker.proofs.tree_lines.Ops.find.Goals as goal

pub returns : goal.returns
returns c = c.copied.ensures ∙ c.get.ensures.value ∙ lookup_is c.args.name.now c.args.self.now.kept.entries
