use Rattle.mm_field.proofs.TableLemmas.{products_hold}
use Rattle.mm_field.proofs.Field.mul.Goals as goal

pub returns-clause-product : goal.returns-clause-product
returns-clause-product c = products_hold c.args.self.now c.row.result c.args.a c.args.b c.row.ensures c.requires.left c.requires.right
