use Rattle.mm_tree.specs.Nodes.{named, field_of}
use Rattle.mm_tree.proofs.TreeLemmas.{few_nodes}
use Rattle.mm_tree.proofs.tree.Tree.nodes.Goals as goal

pub nodes-requires : goal.nodes-requires
nodes-requires c = few_nodes (field_of c.self.inside.node) (named c.self.inside.node) c.self.invariant.valid
