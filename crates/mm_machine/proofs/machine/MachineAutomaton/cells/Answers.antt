use Rattle.std.proofs.Common.{◌∙◌, arith}
use Rattle.mm_machine.proofs.MachineLemmas.{first_look, first_cells}
use Rattle.mm_machine.proofs.machine.MachineAutomaton.cells.Goals as goal

pub cells_at-requires-clause-look : goal.cells_at-requires-clause-look
cells_at-requires-clause-look c = first_look c.args.self.now.parts c.args.self.now.field c.args.self.now.valid

pub cells_at-requires-clause-few : goal.cells_at-requires-clause-few
cells_at-requires-clause-few c = omega (arith, first_cells c.args.self.now.parts c.args.self.now.field c.args.self.now.valid, c.requires)

pub returns : goal.returns
returns c = c.cells_at.ensures ∙ first_cells c.args.self.now.parts c.args.self.now.field c.args.self.now.valid
