use Rattle.mm_field.proofs.TableLemmas.{sums_hold}
use Rattle.mm_field.proofs.Field.add.Goals as goal

pub returns-clause-sum : goal.returns-clause-sum
returns-clause-sum c = sums_hold c.args.self.now c.row.result c.args.a c.args.b c.row.ensures c.requires.left c.requires.right
