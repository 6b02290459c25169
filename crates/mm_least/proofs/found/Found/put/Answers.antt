use Rattle.std.proofs.Common.{sym}
use Rattle.mm_least.proofs.FoundLemmas.{entered_found}
use Rattle.mm_least.proofs.found.Found.put.Goals as goal

pub enter-requires-clause-named : goal.enter-requires-clause-named
enter-requires-clause-named c = sym c.requires.named

pub returns : goal.returns
returns c = entered_found c.args.row c.args.self.now c.enter.new.self c.args.place c.requires.there c.requires.named c.requires.found c.enter.result c.enter.ensures
