use Rattle.mm_machine.proofs.NodeLemmas.{keeps_forgotten}
use Rattle.mm_machine.proofs.numbers.forget.Goals as goal

pub returns-clause-keeps : goal.returns-clause-keeps
returns-clause-keeps c = keeps_forgotten c.args.parts.now (record { ops = c.cut.new.self; list = c.forget_list.new.list; last = c.args.parts.now.last }) c.forget_list.ensures.nodes c.forget_list.ensures.forgotten
