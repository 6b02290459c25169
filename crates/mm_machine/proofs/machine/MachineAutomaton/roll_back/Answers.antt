use Rattle.std.proofs.Common.{length, ap, arith}
use Rattle.mm_machine.proofs.MachineLemmas.{shape_stays, back_machine}
use Rattle.mm_machine.proofs.machine.MachineAutomaton.roll_back.Goals as goal

pub invariant_of-self : goal.invariant_of-self
invariant_of-self c = record { valid = back_machine c.args.self.now.parts c.roll_back.new.parts c.args.self.now.field c.args.self.now.valid c.roll_back.ensures.signs (omega (arith, ap length c.roll_back.ensures.ops, c.args.self.now.valid.few)) c.roll_back.ensures.blocks c.roll_back.ensures.cuts }

pub returns-clause-shape : goal.returns-clause-shape
returns-clause-shape c = shape_stays c.args.self.now.parts c.roll_back.new.parts c.roll_back.ensures.signs
