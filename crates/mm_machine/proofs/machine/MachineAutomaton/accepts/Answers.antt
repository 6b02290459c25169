use Rattle.mm_machine.specs.Machines.{shape_in}
use Rattle.mm_machine.proofs.BuildLemmas.{nodes_some}
use Rattle.mm_machine.proofs.machine.MachineAutomaton.accepts.Goals as goal

pub accepts_at-requires-clause-part : goal.accepts_at-requires-clause-part
accepts_at-requires-clause-part c = nodes_some (shape_in c.args.self.now.parts)
