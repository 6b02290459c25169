use Rattle.mm_job.proofs.StageLemmas.{before_items}
use Rattle.mm_job.proofs.state.JobState.take_line.Goals as goal

pub take_first-requires-clause-first : goal.take_first-requires-clause-first
take_first-requires-clause-first g c = before_items c.args.self.now.stage c.in_default.not-Items
