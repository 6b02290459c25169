use Rattle.mm_ops.specs.contracts.op.OpPartialEq.TheImpl.{eq-value}
use Rattle.mm_ops.proofs.OpEquality.{op_same}
use Rattle.mm_nodes.proofs.SketchLemmas.{place_is}
use Rattle.mm_nodes.proofs.sketches.Sketches.place.Goals as goal

pub returns : goal.returns
returns g c = place_is (eq-value).it op_same c.args.op.now c.args.self.now.kept.entries c.get_index_of.result c.get_index_of.ensures.index
