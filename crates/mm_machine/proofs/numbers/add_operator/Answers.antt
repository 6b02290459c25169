use Rattle.mm_machine.proofs.OperatorLemmas.{put_number, put_keeps}
use Rattle.mm_machine.proofs.numbers.add_operator.Goals as goal

pub returns-clause-number : goal.returns-clause-number
returns-clause-number c = put_number c.put.new.self c.args.op.now c.in_ok-number.number c.in_ok-number.ensures.place

pub returns-clause-keeps : goal.returns-clause-keeps
returns-clause-keeps c = put_keeps c.args.parts.now c.put.new.self c.in_ok-number.number c.args.op.now c.in_ok-number.ensures.values
