use Rattle.mm_machine.proofs.ContentLemmas.{look_at, number_at, content_of}
use Rattle.mm_machine.proofs.machine.Machine.content.Goals as goal

pub content_at-requires-clause-look : goal.content_at-requires-clause-look
content_at-requires-clause-look c = look_at c.args.self.now.parts c.args.self.now.field c.args.self.now.valid c.args.part c.requires.part

pub content_at-requires-clause-id : goal.content_at-requires-clause-id
content_at-requires-clause-id c = number_at c.args.self.now.parts c.args.self.now.field c.args.self.now.valid c.args.part c.requires.part c.args.id c.requires.id

pub returns : goal.returns
returns c = content_of c.args.self.now.parts c.args.self.now.field c.args.self.now.valid c.args.part c.requires.part c.args.id c.content_at.result c.content_at.ensures
