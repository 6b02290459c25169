use Rattle.std.proofs.Common.{length, ap, arith}
use Rattle.mm_machine.specs.Machines.{shape_in}
use Rattle.mm_machine.specs.Parts.{lists, views}
use Rattle.mm_machine.proofs.BuildLemmas.{nodes_some}
use Rattle.mm_machine.proofs.MachineLemmas.{shape_stays, same_tables}
use Rattle.mm_machine.proofs.CallLemmas.{join_can, join_answers, done_machine}
use Rattle.mm_machine.proofs.machine.MachineAutomaton.join_open.Goals as goal

pub join_at-requires-clause-can : goal.join_at-requires-clause-can
join_at-requires-clause-can c = let m = c.args.self.now in join_can m.parts m.parts (same_tables m.parts) 0 m.field c.args.op.now c.args.left c.args.right c.args.room m.valid.few m.valid (nodes_some (shape_in m.parts)) c.requires.can

pub invariant_of-self : goal.invariant_of-self
invariant_of-self c =
    let m = c.args.self.now in
    record {
      valid = done_machine m.parts c.join_at.new.parts 0 _ c.args.room c.join_at.new.room c.join_at.result c.join_at.ensures.done m.field m.valid c.join_at.ensures.signs
          (omega (arith, ap length c.join_at.ensures.ops, m.valid.few)) c.join_at.ensures.cuts;
    }

pub returns-clause-shape : goal.returns-clause-shape
returns-clause-shape c = let m = c.args.self.now in shape_stays m.parts c.join_at.new.parts c.join_at.ensures.signs

pub returns-clause-marked : goal.returns-clause-marked
returns-clause-marked c = let m = c.args.self.now in ap (λ bs. lists (views bs)) c.join_at.ensures.cuts

pub returns-clause-answer : goal.returns-clause-answer
returns-clause-answer c = let m = c.args.self.now in join_answers m.parts m.parts (same_tables m.parts) 0 c.join_at.new.parts c.args.op.now c.args.left c.args.right c.args.room c.join_at.new.room c.join_at.result c.join_at.ensures.done
