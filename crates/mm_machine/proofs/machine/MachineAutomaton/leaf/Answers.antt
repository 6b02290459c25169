use Rattle.std.proofs.Common.{ap}
use Rattle.mm_machine.specs.Shapes.{head_shape}
use Rattle.mm_machine.specs.Machines.{shape_in}
use Rattle.mm_machine.proofs.BuildLemmas.{nodes_some}
use Rattle.mm_machine.proofs.machine.MachineAutomaton.leaf.Goals as goal

pub leaf_at-requires-clause-part : goal.leaf_at-requires-clause-part
leaf_at-requires-clause-part c = nodes_some (shape_in c.args.self.now.parts)

pub returns-clause-shape : goal.returns-clause-shape
returns-clause-shape c = ap head_shape c.leaf_at.ensures.others.shape
