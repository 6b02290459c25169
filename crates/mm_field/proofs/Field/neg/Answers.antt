use Rattle.mm_field.proofs.TableLemmas.{negatives_hold}
use Rattle.mm_field.proofs.Field.neg.Goals as goal

pub returns-clause-negative : goal.returns-clause-negative
returns-clause-negative c = negatives_hold c.args.self.now c.row.result c.args.a c.row.ensures c.requires
