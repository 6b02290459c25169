use Rattle.std.proofs.Common.{subst}
use Rattle.mm_ops.specs.contracts.op.OpPartialEq.TheImpl.{eq-value}
use Rattle.mm_ops.proofs.OpEquality.{op_same}
use Rattle.mm_nodes.specs.Sketches.{IsAt}
use Rattle.mm_nodes.proofs.SketchLemmas.{learns_nothing, learns_put, learns_tried}
use Rattle.mm_nodes.proofs.sketches.Sketches.learn.Goals as goal

pub returns-in-Some-place : goal.returns-in-Some-place
returns-in-Some-place g c =
    let entries = c.args.self.now.kept.entries in
    learns_put g.N.Keeps c.args.op.now c.args.entry.now c.in-Some.sketch entries c.in-Some-place.at c.in-Some.ensures (subst (λ place. IsAt c.args.op.now entries place) c.in-Some-place.is c.requires)

pub returns-in-None : goal.returns-in-None
returns-in-None g c =
    learns_tried g.N.Keeps (eq-value).it op_same c.insert.result c.args.op.now c.args.entry.now c.in-Some.sketch c.args.self.now.kept.entries c.insert.new.self.entries c.in-Some.ensures c.insert.ensures.entries c.insert.ensures.err

pub returns-in_default : goal.returns-in_default
returns-in_default g c = learns_nothing g.N.Keeps c.args.op.now c.args.entry.now c.args.self.now.kept.entries
