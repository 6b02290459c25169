use Rattle.std.proofs.Common.{◌∙◌, sym}
use Rattle.mm_logic.specs.Formula.Formula.{Ind}
use Rattle.mm_combine.proofs.TableLemmas.{sum-ones}
use Rattle.mm_base_auto.specs.Terms.{term_of}
use Rattle.mm_base_auto.proofs.SpaceTableLemmas.{space_cells}
use Rattle.mm_base_auto.proofs.ind.IndAutoAutomaton.cells.Goals as goal

pub returns : goal.returns
returns c =
    let a = c.args.self.now in
    c.cells.ensures ∙ sum-ones a.values.table ∙ sym (space_cells (Ind (term_of a.whole a.slots.items)) tt a.values.table)
