use Rattle.mm_least.proofs.FoundLemmas.{added_there, added_apart, added_named, added_log, entered_new}
use Rattle.mm_least.proofs.found.Found.put_new.Goals as goal

pub enter-requires-clause-there : goal.enter-requires-clause-there
enter-requires-clause-there c = added_there c.args.row c.args.self.now c.add_type.new.self c.in-Ok.place c.requires.new c.requires.found c.in-Ok.ensures

pub enter-requires-clause-apart : goal.enter-requires-clause-apart
enter-requires-clause-apart c = added_apart c.args.row c.args.self.now c.add_type.new.self c.in-Ok.place c.requires.new c.requires.found c.in-Ok.ensures

pub enter-requires-clause-named : goal.enter-requires-clause-named
enter-requires-clause-named c = added_named c.args.row c.args.self.now c.add_type.new.self c.in-Ok.place c.requires.new c.requires.found c.in-Ok.ensures

pub enter-requires-clause-log : goal.enter-requires-clause-log
enter-requires-clause-log c = added_log c.args.row c.args.self.now c.add_type.new.self c.in-Ok.place c.requires.new c.requires.found c.in-Ok.ensures

pub returns-in-Ok : goal.returns-in-Ok
returns-in-Ok c = entered_new c.args.row c.args.self.now c.add_type.new.self c.enter.new.self c.in-Ok.place c.requires.new c.requires.found c.in-Ok.ensures c.enter.result c.enter.ensures
