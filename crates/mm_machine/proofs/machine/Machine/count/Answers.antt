use Rattle.std.proofs.Common.{◌∙◌}
use Rattle.mm_machine.proofs.ContentLemmas.{look_at}
use Rattle.mm_machine.proofs.CallLemmas.{count_is}
use Rattle.mm_machine.proofs.machine.Machine.count.Goals as goal

pub count_at-requires : goal.count_at-requires
count_at-requires c = let m = c.args.self.now in look_at m.parts m.field m.valid c.args.part c.requires

pub returns : goal.returns
returns c = c.count_at.ensures ∙ count_is c.args.self.now.parts c.args.part
