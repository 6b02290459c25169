use Rattle.mm_formula.proofs.ScopeLemmas.{no_room}
use Rattle.mm_formula.specs.Syntax.{syntax_of}
use Rattle.mm_formula.proofs.scope.+spend_nodes.Goals as goal

pub returns-then-room-eq0 : goal.returns-then-room-eq0
returns-then-room-eq0 t c = no_room (syntax_of c.args.formula.now) c.args.room c.if-room-eq0.true
