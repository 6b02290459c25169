use Rattle.std.proofs.Common.{arith}
use Rattle.mm_logic.specs.Formula.Formula.{Ind}
use Rattle.mm_combine.proofs.TableLemmas.{sum-ones}
use Rattle.mm_base_auto.specs.Terms.{term_of}
use Rattle.mm_base_auto.proofs.SpaceTableLemmas.{space_answers, spaces_stay}
use Rattle.mm_base_auto.proofs.ind.IndAuto.put.Goals as goal

pub put-requires : goal.put-requires
put-requires c = omega (arith, c.requires.room, sum-ones c.args.self.now.values.table)

pub invariant_of-self-clause-over : goal.invariant_of-self-clause-over
invariant_of-self-clause-over c = spaces_stay c.args.self.now.field c.args.value.now c.args.self.now.values.table c.put.new.self.table c.args.room c.put.result c.requires.over c.args.self.now.over c.put.ensures.answer

pub returns-clause-answer : goal.returns-clause-answer
returns-clause-answer c =
    let a = c.args.self.now in
    space_answers a.field (Ind (term_of a.whole a.slots.items)) tt c.args.value.now a.values.table c.put.new.self.table c.args.room c.put.result c.requires.over a.over c.put.ensures.answer
