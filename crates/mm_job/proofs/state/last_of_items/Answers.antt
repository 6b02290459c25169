use Rattle.std.proofs.Common.{true, false, sym, ◌∙◌}
use Rattle.mm_job.specs.State.JobStates.{end_by}
use Rattle.mm_job.proofs.EndLemmas.{end_between, end_inside}
use Rattle.mm_job.proofs.state.last_of_items.Goals as goal

pub returns-in-Some : goal.returns-in-Some
returns-in-Some c = λ s. c.cut_short.ensures ∙ sym (end_inside s c.args.block.now c.in-Some.field-0 (end_by c.args.over) c.in-Some.is)

pub returns-in-None : goal.returns-in-None
returns-in-None c = λ s. sym (end_between s c.args.block.now c.args.over true c.in-None.is c.if-over.true)

pub returns-in-None-2 : goal.returns-in-None-2
returns-in-None-2 c = λ s. sym (end_between s c.args.block.now c.args.over false c.in-None.is c.if-over.false)
