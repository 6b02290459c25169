use Rattle.std.proofs.Common.{◌∙◌}
use Rattle.mm_machine.proofs.ContentLemmas.{look_at, number_at}
use Rattle.mm_machine.proofs.CallLemmas.{accepts_is}
use Rattle.mm_machine.proofs.machine.Machine.accepts_at.Goals as goal

pub accepts_at-requires-clause-look : goal.accepts_at-requires-clause-look
accepts_at-requires-clause-look c = let m = c.args.self.now in look_at m.parts m.field m.valid c.args.part c.requires.part

pub accepts_at-requires-clause-id : goal.accepts_at-requires-clause-id
accepts_at-requires-clause-id c = let m = c.args.self.now in number_at m.parts m.field m.valid c.args.part c.requires.part c.args.id c.requires.id

pub returns : goal.returns
returns c = c.accepts_at.ensures ∙ accepts_is c.args.self.now.parts c.args.part c.args.id
