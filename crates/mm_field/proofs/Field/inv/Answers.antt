use Rattle.mm_field.proofs.TableLemmas.{inverses_hold}
use Rattle.mm_field.proofs.Field.inv.Goals as goal

pub returns-clause-inverse : goal.returns-clause-inverse
returns-clause-inverse c = inverses_hold c.args.self.now c.row.result c.args.a c.row.ensures c.requires.digit
