use Rattle.std.proofs.Common.{length, ap, arith}
use Rattle.mm_machine.proofs.MachineLemmas.{shape_stays, mark_machine, mark_lists}
use Rattle.mm_machine.proofs.machine.MachineAutomaton.mark.Goals as goal

pub invariant_of-self : goal.invariant_of-self
invariant_of-self c = record { valid = mark_machine c.args.self.now.parts c.mark.new.parts c.args.self.now.field c.args.self.now.valid c.mark.ensures.signs (omega (arith, ap length c.mark.ensures.ops, c.args.self.now.valid.few)) c.mark.ensures.blocks c.mark.ensures.cuts }

pub returns-clause-shape : goal.returns-clause-shape
returns-clause-shape c = shape_stays c.args.self.now.parts c.mark.new.parts c.mark.ensures.signs

pub returns-clause-marked : goal.returns-clause-marked
returns-clause-marked c = mark_lists c.args.self.now.parts c.mark.new.parts c.mark.ensures.cuts
