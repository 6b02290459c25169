use Rattle.mm_machine.proofs.MachineLemmas.{shape_stays, keeps_signs, keeps_lists, keeps_marked, keeps_machine}
use Rattle.mm_machine.proofs.machine.MachineAutomaton.open.Goals as goal

pub invariant_of-self : goal.invariant_of-self
invariant_of-self c = let m = c.args.self.now in record { valid = keeps_machine m.parts c.number_of.new.parts c.number_of.ensures.keeps m.field c.number_of.ensures.few m.valid }

pub invariant_of-self-2 : goal.invariant_of-self-2
invariant_of-self-2 c = let m = c.args.self.now in record { valid = keeps_machine m.parts c.number_of.new.parts c.number_of.ensures.keeps m.field c.number_of.ensures.few m.valid }

pub returns-in_err-number-clause-shape : goal.returns-in_err-number-clause-shape
returns-in_err-number-clause-shape c = let m = c.args.self.now in shape_stays m.parts c.number_of.new.parts (keeps_signs m.parts c.number_of.new.parts c.number_of.ensures.keeps)

pub returns-in_err-number-clause-lists : goal.returns-in_err-number-clause-lists
returns-in_err-number-clause-lists c = let m = c.args.self.now in keeps_lists m.parts c.number_of.new.parts c.number_of.ensures.keeps

pub returns-in_err-number-clause-marked : goal.returns-in_err-number-clause-marked
returns-in_err-number-clause-marked c = let m = c.args.self.now in keeps_marked m.parts c.number_of.new.parts c.number_of.ensures.keeps

pub returns-clause-shape : goal.returns-clause-shape
returns-clause-shape c = let m = c.args.self.now in shape_stays m.parts c.number_of.new.parts (keeps_signs m.parts c.number_of.new.parts c.number_of.ensures.keeps)

pub returns-clause-lists : goal.returns-clause-lists
returns-clause-lists c = let m = c.args.self.now in keeps_lists m.parts c.number_of.new.parts c.number_of.ensures.keeps

pub returns-clause-marked : goal.returns-clause-marked
returns-clause-marked c = let m = c.args.self.now in keeps_marked m.parts c.number_of.new.parts c.number_of.ensures.keeps
