use Rattle.mm_machine.proofs.ShapeLemmas.{shapes_are_nodes}
use Rattle.mm_machine.proofs.laws.parts_are_nodes.Goals as goal

pub returns : goal.returns
returns c = let m = c.args.machine.now in shapes_are_nodes m.parts m.field m.valid
