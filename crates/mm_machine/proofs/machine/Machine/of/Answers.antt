use Rattle.mm_machine.proofs.BuildLemmas.{built_machine, built_lists, built_marked}
use Rattle.mm_machine.proofs.machine.Machine.of.Goals as goal

pub invariant_of-result : goal.invariant_of-result
invariant_of-result c = record { valid = built_machine (record { ops = c.new.result; list = c.in_ok-list.list; last = 0 }) c.args.f _ c.new.ensures c.in_ok-list.ensures.size c.in_ok-list.ensures.built }

pub returns-clause-lists : goal.returns-clause-lists
returns-clause-lists c = built_lists (record { ops = c.new.result; list = c.in_ok-list.list; last = 0 }) c.args.f _ c.new.ensures c.in_ok-list.ensures.size c.in_ok-list.ensures.built

pub returns-clause-marked : goal.returns-clause-marked
returns-clause-marked c = built_marked (record { ops = c.new.result; list = c.in_ok-list.list; last = 0 }) c.args.f _ c.new.ensures c.in_ok-list.ensures.size c.in_ok-list.ensures.built
