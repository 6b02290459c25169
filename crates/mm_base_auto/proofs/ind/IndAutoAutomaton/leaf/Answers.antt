use Rattle.mm_logic.specs.Formula.Formula.{Ind}
use Rattle.mm_base_auto.specs.Terms.{term_of}
use Rattle.mm_base_auto.proofs.SpaceTableLemmas.{space_room}
use Rattle.mm_base_auto.proofs.ind.IndAutoAutomaton.leaf.Goals as goal

pub put-requires-clause-room : goal.put-requires-clause-room
put-requires-clause-room c =
    let a = c.args.self.now in
    space_room (Ind (term_of a.whole a.slots.items)) tt a.values.table c.args.room c.requires.roomy
