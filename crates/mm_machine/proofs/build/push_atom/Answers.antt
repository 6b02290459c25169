use Rattle.mm_machine.proofs.BuildLemmas.{push_atom_node}
use Rattle.mm_machine.proofs.build.push_atom.Goals as goal

pub returns : goal.returns
returns c = push_atom_node c.args.f c.args.list.now.items c.push_node.new.list.items c.push_node.result c.args.atom c.requires c.push_node.ensures
